-- `pack::put_slots` meets its contract: each turn puts the next row's lines behind those before it.
use mathlib.Core.Path.{◌≡◌, sym, ap, ◌∙◌}
use Prim.Native.Nat.{ℕ, ◌+◌, ◌-◌}
use native.Mathlib.Numerals.{add-one}
use native.Mathlib.Omega.{arith}
use Rattle.layout.specs.Triangle.{slot_of}
use Rattle.layout.proofs.RowByRow.{row_first, row_next, row_within}
use Rattle.text.proofs.Adding.{adds_none, adds_then}
use Rattle.report.proofs.pack.put_slots.Goals as goal
use Rattle.report.proofs.pack.put_slots.Goals.{In-loop-i}

-- the next row's first slot
carried : (c : In-loop-i) → let n = c.args.rows in
    c.loop-i.first + (n - 1 - c.loop-i.i) ≡ slot_of n (c.loop-i.i + 1) (c.loop-i.i + 1 + 1)
carried c =
    let n = c.args.rows in
    ap (λ (x : ℕ). x + (n - 1 - c.loop-i.i)) c.loop-i.invariant.1 ∙ sym (row_next n c.loop-i.i c.loop-i-test.true)

pub loop-i-init : goal.loop-i-init
loop-i-init c = (adds_none c.args.page.now, sym (row_first c.args.rows))

pub overflow_add-first : goal.overflow_add-first
overflow_add-first c =
    let w = (goal.at.overflow_add-first c).In-loop-i in let n = w.args.rows in
    omega (arith, carried w, row_within n (w.loop-i.i + 1) (omega arith))

pub loop-i-preserved : goal.loop-i-preserved
loop-i-preserved c =
    let t = (goal.at.loop-i-preserved c).In-loop-i in (rw add-one (adds_then t.loop-i.invariant.0 c.put_row.ensures), carried t)
