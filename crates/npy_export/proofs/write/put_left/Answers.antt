-- `write::put_left` meets its contract: each turn writes the next entry behind those before it.
use mathlib.Core.Path.{◌≡◌, refl}
use Prim.Native.Nat.{◌+◌, ◌-◌, ◌≤◌, ◌<◌}
use native.Mathlib.Omega.{arith}
use lib.ListN.{length}
use Rattle.answers.proofs.Runs.{run_none, run_room, run_more}
use Rattle.layout.specs.Triangle.{slot_of}
use Rattle.layout.proofs.RowByRow.{row-by-row, row_first, row_next, row_within, row-along}
use Rattle.npy_export.proofs.Body.{length-left}
use Rattle.npy_export.proofs.write.put_left.Goals as goal
use Rattle.npy_export.proofs.write.put_left.Goals.{In-loop}

-- the slot that the turn comes to
slot : (c : In-loop) → let a = c.args in
    c.loop.behind ≡ slot_of a.rows c.loop.counter a.i + 1
slot c =
    let j = c.loop.counter in
    let e : j + 1 + (c.args.i - 1 - j) ≡ c.args.i = omega (arith, c.loop-test.true) in
    let p = rw e at (row-along c.args.rows j (c.args.i - 1 - j) (omega (arith, c.requires.0, c.loop-test.true))) in
    omega (arith, c.loop-test.true, c.loop.invariant.1, p)

below : (c : In-loop) → let a = c.args in
    c.loop.behind - 1 < length a.correlations.now
below c =
    omega (arith, slot c, c.requires.1, (row-by-row c.args.rows).below c.loop.counter c.args.i (c.loop-test.true, c.requires.0))

-- one behind the next
carried : (c : In-loop) → let n = c.args.rows in
    let j = c.loop.counter in
    (c.loop.behind + (c.loop.step - 1) + (j + 1) ≡ slot_of n (j + 1) (j + 1 + 1) + c.args.i)
    × (c.loop.step - 1 + (j + 1) ≡ n - 1)
carried c =
    let l = c.loop in
    let q = row_next c.args.rows l.counter (omega (arith, c.requires.0, c.loop-test.true)) in
    (omega (arith, c.requires.0, c.loop-test.true, l.invariant.1, l.invariant.2, q), omega (arith, c.requires.0, c.loop-test.true, l.invariant.2))

-- the next eight bytes have room
room : (c : In-loop) → c.loop.next + 8 ≤ length c.loop.out
room c = run_room c.loop.invariant.0 c.loop-test.true

pub loop-init : goal.loop-init
loop-init c =
    let a = c.args in
    (run_none (omega (arith, c.requires.2, length-left a.rows a.correlations.now a.i)), omega (arith, row_first a.rows), omega arith)

pub offset_bounds-correlations-behind : goal.offset_bounds-correlations-behind
offset_bounds-correlations-behind c = omega (arith, below c)

pub bounds-correlations-behind : goal.bounds-correlations-behind
bounds-correlations-behind c = below (goal.at.bounds-correlations-behind c).In-loop

pub put_entry-requires : goal.put_entry-requires
put_entry-requires c = room (goal.at.put_entry-requires c).In-loop

pub overflow_add-behind : goal.overflow_add-behind
overflow_add-behind c =
    let w = (goal.at.overflow_add-behind c).In-loop in omega (arith, (carried w).0, row_within w.args.rows (w.loop.counter + 1) (omega (arith, w.loop-test.true, w.requires.0)), w.requires.1)

pub overflow_add-next : goal.overflow_add-next
overflow_add-next c = omega (arith, room (goal.at.overflow_add-next c).In-loop)

pub loop-preserved : goal.loop-preserved
loop-preserved c =
    let t = (goal.at.loop-preserved c).In-loop in let a = t.args in
    let e : t.loop.behind - 1 ≡ slot_of a.rows t.loop.counter a.i = omega (arith, slot t) in
    (run_more t.loop.invariant.0 t.loop-test.true (rw e at c.put_entry.ensures) refl, (carried t).0, (carried t).1)
