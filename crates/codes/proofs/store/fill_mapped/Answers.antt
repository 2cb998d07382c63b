-- `store::fill_mapped` meets its contract: where no code exceeds the top code all are values, and otherwise what each was
-- is told over what the faster pass has left.
use Rattle.std.proofs.Common.{ℕ, List, sym, ap, ◌∙◌}
use Rattle.answers.specs.Lent.{over, tab}
use Rattle.answers.proofs.Lent.{length-tab, over-twice}
use Rattle.elements.specs.Elements.{slot_in}
use Rattle.imapb.proofs.Maps.{mapping-tells}
use Rattle.codes.specs.Fill.{Mapped, present_as1}
use Rattle.codes.proofs.Told.{ByWords, by-words, all-values}
use Rattle.codes.proofs.store.fill_mapped.Goals as goal
use Rattle.codes.proofs.store.fill_mapped.Goals.{In-Some, Start}

-- the codes are read by words
words : (s : Start) → ByWords s.args.control s.args.codes
words s = by-words s.args.control s.args.codes s.requires.2

-- the mapping is that of their length
mapped : (c : In-Some) → let a = c.args in Mapped a.bytes.now a.vector a.codes a.control c.in-Some.mapping a.slots
mapped c =
    let s = c.before.before.before.before.before.before.before in record {
      held = s.requires.0;
      vector-there = s.requires.1;
      cf = (words s).cf;
      long = mapping-tells s.args.control.clen (sym c.imapb_mapping.ensures ∙ c.in-Some.is);
      words = (words s).words;
    }

-- what slot k was, and whether it is present
abbrev state : Start → ℕ → ℕ
state s = λ k. (slot_in s.args.bytes.now s.args.vector s.args.codes s.args.control k).state

abbrev there : Start → ℕ → ℕ
there s = present_as1 s.args.bytes.now s.args.vector s.args.control

pub invariant_of-coded : goal.invariant_of-coded
invariant_of-coded c = record { mapped = mapped (goal.at.invariant_of-coded c).In-Some }

pub returns-then-met-mapping : goal.returns-then-met-mapping
returns-then-met-mapping c =
    let k = (goal.at.returns-then-met-mapping c).In-Some in let e = c.fill_values-met.ensures in
    (e.0, e.1 ∙ ap (λ (t : List ℕ). over t k.args.states.now) (all-values (mapped k) e.2 c.if-met-mapping.true))

pub returns : goal.returns
returns c =
    let e = c.fill_values-met.ensures in
    let s = (goal.at.returns c).Start in let n = s.args.slots in
    (e.0, rw e.1 at c.fill_states.ensures ∙ over-twice (tab n (state s)) (tab n (there s)) s.args.states.now (length-tab n (state s) ∙ sym (length-tab n (there s))))
