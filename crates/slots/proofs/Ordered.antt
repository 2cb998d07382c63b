-- The rules in their order: where each ends it, and the plan where none does.
-- Assumes nothing.
use mathlib.Core.Path.{◌≡◌}
use mathlib.Core.List.{List}
use Prim.Native.Nat.{ℕ, ◌≤◌, ◌<◌}
use borrow.Author.Tests.{lt-ltb, le-ltb}
use Rattle.answers.specs.Listed.{listed}
use Rattle.answers.specs.declared.Refusal.{Refusal}
use Rattle.answers.specs.declared.Refusal.TheVariants.{BufferTooSmall}
use Rattle.answers.proofs.OneToOne.{refused-not-done}
use Rattle.plan.specs.declared.places.Plan.{Plan}
use Rattle.answers.specs.Outcome.{found, refused}
use Rattle.plan.specs.Listed.{planned}
use Rattle.plan.specs.Places.{pack_plan}
use Rattle.plan.specs.Rules.{plan_rules}
use Rattle.answers.proofs.Outcome.{refused-tells, found-where, refused-where}
use Rattle.slots.specs.Listed.{slots_answer}
use Rattle.slots.specs.Rules.{slots_rules}

module _ (n : ℕ) (cs : List ℕ) (L room : ℕ) where
  abbrev plan : Plan
  plan = pack_plan n cs L

  pub plan-stop : (r : Refusal) → refused (listed r) ≡ planned n cs L → refused (listed r) ≡ slots_answer n cs L room
  plan-stop r e =
      let t : plan_rules n cs L ≡ listed r = refused-tells (plan_rules n cs L) plan e in
      refused-where (slots_rules n cs L room) plan r (rw (t, refused-not-done r))

  module _ (c : (plan_rules n cs L).number ≡ 0) where
    pub room-stop : room < plan.end → refused (listed (BufferTooSmall plan.end room)) ≡ slots_answer n cs L room
    room-stop h = refused-where (slots_rules n cs L room) plan (BufferTooSmall plan.end room) (rw (c, lt-ltb room plan.end h))

    pub all_pass : plan.end ≤ room → found plan ≡ slots_answer n cs L room
    all_pass h = found-where (slots_rules n cs L room) plan (rw (c, le-ltb room plan.end h))
