-- `write::put_right` meets its contract: each turn writes the next slot behind those before it.
use mathlib.Core.Path.{◌≡◌, refl, sym, ap, ◌∙◌}
use Prim.Native.Nat.{ℕ, ◌+◌, ◌-◌, ◌≤◌, ◌<◌}
use native.Mathlib.Omega.{arith}
use lib.ListN.{length, get_or}
use Rattle.std.specs.List.{between}
use Rattle.std.proofs.lemmas.List.Edits.{length-between, get_or-between}
use Rattle.answers.proofs.Runs.{run_none, run_room, run_more, run-done}
use Rattle.layout.specs.Triangle.{slot_of}
use Rattle.layout.proofs.RowByRow.{row-along}
use Rattle.npy_export.proofs.Body.{length-right, row_ends}
use Rattle.npy_export.proofs.write.put_right.Goals as goal
use Rattle.npy_export.proofs.write.put_right.Goals.{Start, In-loop-correlation}

-- the row's slots end within those lent
ends : (c : Start) → c.args.first + (c.args.rows - 1 - c.args.i) ≤ length c.args.correlations.now
ends c = let a = c.args in let r = c.requires in row_ends a.rows a.i a.first a.correlations.now r.0 r.1 r.2

-- the turn is one of the row's
inside : (c : In-loop-correlation) → c.loop-correlation.correlation-index < c.args.rows - 1 - c.args.i
inside c =
    let a = c.args in let r = c.requires in
    let e = row_ends a.rows a.i a.first a.correlations.now r.0 r.1 r.2 in
    omega (arith, length-between a.correlations.now a.first (a.first + (a.rows - 1 - a.i)) e)

-- the slot that the turn comes to
slot : (c : In-loop-correlation) → let a = c.args in let k = c.loop-correlation.correlation-index in
    get_or (between a.first (a.first + (a.rows - 1 - a.i)) a.correlations.now) k 0 ≡ get_or a.correlations.now (slot_of a.rows a.i (a.i + 1 + k)) 0
slot c =
    let a = c.args in let r = c.requires in let k = c.loop-correlation.correlation-index in let h = inside c in
    get_or-between a.correlations.now a.first (a.first + (a.rows - 1 - a.i)) k 0 (omega arith)
    ∙ ap (λ (x : ℕ). get_or a.correlations.now x 0) (rw r.2 (sym (row-along a.rows a.i k (omega (arith, r.0)))))

-- the next eight bytes have room
room : (c : In-loop-correlation) → c.loop-correlation.next + 8 ≤ length c.loop-correlation.out
room c = run_room c.loop-correlation.invariant (inside c)

pub loop-correlation-init : goal.loop-correlation-init
loop-correlation-init c =
    let a = c.args in
    run_none (omega (arith, c.requires.3, length-right a.rows a.correlations.now a.i))

pub overflow_add-correlation-items : goal.overflow_add-correlation-items
overflow_add-correlation-items c = omega (arith, ends (goal.at.overflow_add-correlation-items c).Start)

pub slice_bounds-correlation-items-end : goal.slice_bounds-correlation-items-end
slice_bounds-correlation-items-end c = ends (goal.at.slice_bounds-correlation-items-end c).Start

pub offset_bounds-correlations-first : goal.offset_bounds-correlations-first
offset_bounds-correlations-first c = omega (arith, ends (goal.at.offset_bounds-correlations-first c).Start)

pub put_entry-requires : goal.put_entry-requires
put_entry-requires c = room (goal.at.put_entry-requires c).In-loop-correlation

pub overflow_add-next : goal.overflow_add-next
overflow_add-next c = omega (arith, room (goal.at.overflow_add-next c).In-loop-correlation)

pub loop-correlation-preserved : goal.loop-correlation-preserved
loop-correlation-preserved c =
    let t = (goal.at.loop-correlation-preserved c).In-loop-correlation in
    run_more t.loop-correlation.invariant (inside t) (rw (slot t) at c.put_entry.ensures) refl

pub returns : goal.returns
returns c =
    let a = c.args in
    let e = ends (goal.at.returns c).Start in
    run-done c.loop-correlation.invariant (omega (arith, length-between a.correlations.now a.first (a.first + (a.rows - 1 - a.i)) e))
