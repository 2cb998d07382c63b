-- `slots::put_slots` meets its contract: each turn puts the next row behind those before it.
use mathlib.Core.Path.{◌≡◌, sym, ap, ◌∙◌}
use Prim.Native.Nat.{ℕ, ◌+◌, ◌-◌}
use native.Mathlib.Numerals.{add-one}
use native.Mathlib.Omega.{arith}
use Rattle.layout.specs.Triangle.{slot_of}
use Rattle.layout.proofs.RowByRow.{row_first, row_next, row_within}
use Rattle.text.proofs.Adding.{adds_none, adds_then}
use Rattle.accounts.proofs.Told.{slots-fit}
use Rattle.accounts.proofs.slots.put_slots.Goals as goal
use Rattle.accounts.proofs.slots.put_slots.Goals.{In-loop-i}

-- the next row's first slot
carried : (c : In-loop-i) → let n = c.args.head.n in
    c.loop-i.first + (n - 1 - c.loop-i.i) ≡ slot_of n (c.loop-i.i + 1) (c.loop-i.i + 1 + 1)
carried c =
    let n = c.args.head.n in
    let p = c.loop-i in
    ap (λ (x : ℕ). x + (n - 1 - p.i)) p.invariant.1 ∙ sym (row_next n p.i c.loop-i-test.true)

pub loop-i-init : goal.loop-i-init
loop-i-init c =
    (adds_none c.args.page.now, sym (row_first c.args.head.n), c.requires.1)

pub overflow_add-first : goal.overflow_add-first
overflow_add-first c =
    let t = (goal.at.overflow_add-first c).In-loop-i in let n = t.args.head.n in
    omega (arith, carried t, row_within n (t.loop-i.i + 1) (omega arith), slots-fit n (omega arith))

pub loop-i-preserved : goal.loop-i-preserved
loop-i-preserved c =
    let t = (goal.at.loop-i-preserved c).In-loop-i in (rw (add-one t.loop-i.i) (adds_then t.loop-i.invariant.0 c.put_row-code.ensures.0), carried t, c.put_row-code.ensures.1)
