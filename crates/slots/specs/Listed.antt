-- What the writer of the slots answers and leaves, by the rules.
use Rattle.std.specs.Prelude.{ℕ, List}
use Rattle.std.proofs.lemmas.List.Edits.{sets}
use Rattle.plan.specs.declared.places.Plan.{Plan}
use Rattle.answers.specs.Outcome.{Outcome, found, refused, unless}
use Rattle.plan.specs.Places.{pack_plan}
use Rattle.slots.specs.Rules.{slots_rules}
use Rattle.slots.specs.Slots.{element3, element5}

-- the plan by which the slots are written, or the first refusal
abbrev pub slots_answer : ℕ → List ℕ → ℕ → ℕ → Outcome Plan
slots_answer n cs L room = unless (slots_rules n cs L room) (pack_plan n cs L)

-- elements 3 and 5 at their places
abbrev pub slots_over : List ℕ → Plan → List ℕ → List ℕ
slots_over cs p lent =
    sets (sets lent p.vector (element3 p.sparse cs)) p.codes (element5 p.sparse cs p.clen)

-- a refusal leaves all as it was
abbrev pub slots_left : Outcome Plan → List ℕ → List ℕ → List ℕ
slots_left (found p) cs lent = slots_over cs p lent
slots_left (refused a) cs lent = lent
