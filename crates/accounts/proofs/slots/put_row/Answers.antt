-- `slots::put_row` meets its contract: each turn puts the next slot behind those before it.
use mathlib.Core.Path.{◌≡◌, ap, ap₂, ◌∙◌}
use mathlib.Core.List.{◌++◌}
use Prim.Native.Nat.{◌+◌, ◌-◌, ◌<◌}
use native.Mathlib.Nat.{add-zero}
use native.Mathlib.Numerals.{add-one}
use native.Mathlib.Omega.{arith}
use Rattle.layout.specs.Triangle.{slots_of}
use Rattle.layout.proofs.Along.{slot_at, slot-below}
use Rattle.explain.specs.Slots.{code_at, slot_code}
use Rattle.parts.specs.Parts.{gap, slot_text}
use Rattle.text.proofs.Adding.{adds_none, adds_then}
use Rattle.accounts.proofs.Told.{is-slot, slot-behind, slots-fit}
use Rattle.accounts.proofs.slots.put_row.Goals as goal
use Rattle.accounts.proofs.slots.put_row.Goals.{In-loop-j}

below : (c : In-loop-j) → let a = c.args in a.first + (c.loop-j.j - 1 - a.i) < slots_of a.head.n
below c = slot-below c.requires.1 c.requires.2 (omega arith) c.loop-j-test.true

pub overflow_add-slot : goal.overflow_add-slot
overflow_add-slot c =
    let t = (goal.at.overflow_add-slot c).In-loop-j in omega (arith, below t, slots-fit t.args.head.n (omega arith))

pub loop-j-init : goal.loop-j-init
loop-j-init c =
    let a = c.args in
    let none : a.i + 1 - 1 - a.i ≡ 0 = omega arith in
    (rw none (adds_none a.page.now), rw (none, add-zero) c.requires.3)

pub loop-j-preserved : goal.loop-j-preserved
loop-j-preserved c =
    let t = (goal.at.loop-j-preserved c).In-loop-j in let a = t.args in let p = t.loop-j in
    let k = p.j - 1 - a.i in
    let more : p.j + 1 - 1 - a.i ≡ k + 1 = omega arith in
    let here : p.j ≡ a.i + 1 + k = omega arith in
    let after : a.first + k + 1 ≡ a.first + (p.j + 1 - 1 - a.i) = omega arith in
    let e = is-slot t.requires.0 (below t) p.invariant.1 c.slot_code-told.ensures in
    let s = e ∙ ap (slot_code a.bytes.now a.head) (slot_at t.requires.1 t.requires.2 (omega arith)) in
    let q = ap (◌++◌ (gap a.lines)) (ap₂ (slot_text a.lines a.bytes.now a.i) here s) in (
      rw (more, add-one k) (adds_then p.invariant.0 (rw q at c.put_slot.ensures)),
      c.behind-code.ensures ∙ slot-behind t.requires.0 (below t) p.invariant.1 c.slot_code-told.ensures ∙ ap (code_at a.bytes.now a.head) after,
    )

pub returns : goal.returns
returns c =
    let a = c.args in
    let p = c.loop-j in
    let e : p.j - 1 - a.i ≡ a.head.n - 1 - a.i = omega (arith, p.auto.j-end (omega arith)) in
    (rw e at p.invariant.0, rw e at p.invariant.1)
