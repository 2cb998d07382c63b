-- `plain::fill_plain` meets its contract: each turn stores the next slot, whose code is there if it is present.
use mathlib.Core.Path.{◌≡◌, sym, ap, ◌∙◌}
use Prim.Native.Nat.{ℕ, ◌+◌}
use Rattle.answers.specs.Outcome.{found}
use Rattle.answers.proofs.Outcome.{found-one, found-not-refused}
use Rattle.elements.specs.declared.slot.Slot.{Slot}
use Rattle.elements.specs.Elements.{slot_in}
use Rattle.elements.specs.Slots.{slot_listed}
use Rattle.answers.proofs.Tab.{tab-none, tab-more, tab-done}
use Rattle.codes.proofs.Filled.{first_code, behind-present, behind-absent, slot_held}
use Rattle.reader.proofs.plain.fill_plain.Goals as goal
use Rattle.reader.proofs.plain.fill_plain.Goals.{then-present, else-present, After-slot_at-read, Start}

-- slot k of the arguments
abbrev correlation : Start → ℕ → ℕ
correlation c = λ k. (slot_in c.args.bytes.now c.args.vector c.args.codes c.args.control k).bits

abbrev state : Start → ℕ → ℕ
state c = λ k. (slot_in c.args.bytes.now c.args.vector c.args.codes c.args.control k).state

-- the slot that is read
read : (c : After-slot_at-read)
    → let a = c.args in
    slot_listed c.slot_at-read.result ≡ found (slot_in a.bytes.now a.vector a.codes a.control c.loop-k.k)
read c =
    let a = c.args in
    c.slot_at-read.ensures
    ∙ slot_held a.bytes.now a.vector a.codes a.control c.loop-k.k c.requires.0 c.loop-k-test.true c.loop-k.invariant.2 c.is_present-present.ensures

pub loop-k-init : goal.loop-k-init
loop-k-init c =
    let s = (goal.at.loop-k-init c).Start in let a = s.args in
    (tab-none a.slots (correlation s) s.requires.1, tab-none a.slots (state s) s.requires.2, first_code a.bytes.now a.vector a.codes a.control)

pub returns-in_default : goal.returns-in_default
returns-in_default c = let d = (goal.at.returns-in_default c).After-slot_at-read in absurd (found-not-refused (sym (ap slot_listed c.in_default.is) ∙ read d))

pub loop-k-preserved : goal.loop-k-preserved
loop-k-preserved c =
    let d = (goal.at.loop-k-preserved c).After-slot_at-read in let s = (goal.at.loop-k-preserved c).Start in let a = s.args in
    let l = d.loop-k in
    let x = found-one (sym (ap slot_listed c.in-Ok.is) ∙ read d) in (
      tab-more a.slots (correlation s) l.invariant.0 d.loop-k-test.true (ap (λ (v : Slot). v.bits) x),
      tab-more a.slots (state s) l.invariant.1 d.loop-k-test.true (ap (λ (v : Slot). v.state) x),
      elim c.if-present.branch [
        | then-present w ↦ w.next-is ∙ ap (λ (n : ℕ). n + a.control.clen) l.invariant.2 ∙ behind-present a.bytes.now a.vector a.codes a.control l.k (sym d.is_present-present.ensures ∙ w.if-present.true)
        | else-present w ↦ w.next-is ∙ l.invariant.2 ∙ behind-absent a.bytes.now a.vector a.codes a.control l.k (sym d.is_present-present.ensures ∙ w.if-present.false)
      ],
    )

pub returns : goal.returns
returns c =
    let s = (goal.at.returns c).Start in let i = c.loop-k.invariant in
    (tab-done s.args.slots (correlation s) i.0 c.loop-k-test.false, tab-done s.args.slots (state s) i.1 c.loop-k-test.false)
