-- The writer's order, rule by rule: where each ends it, and what is answered where none does.
-- Assumes nothing.
use mathlib.Core.Path.{◌≡◌, refl, sym, ◌∙◌}
use mathlib.Core.Bool.{Bool, true, false}
use mathlib.Core.List.{List, [], ◌∷◌}
use Prim.Native.Nat.{ℕ, ◌≤◌}
use native.Mathlib.Omega.{arith}
use borrow.Author.Tests.{eqb-true, ltb-false, le-ltb}
use lib.Dec.{eqb, ltb}
use lib.ListN.{length}
use Rattle.answers.specs.Table.{Answer, answer, wholes, pick, passes, next, room_rule}
use Rattle.answers.specs.Listed.{listed}
use Rattle.answers.specs.declared.Refusal.{Refusal}
use Rattle.answers.proofs.OneToOne.{refused-not-done}
use Rattle.answers.proofs.Next.{next-next, next-passed, next-zero}
use Rattle.answers.proofs.Rules.{picked}
use Rattle.plan.specs.Places.{pack_plan}
use Rattle.plan.specs.Rules.{count_rules, range_rules, plan_rules}
use Rattle.slots.specs.Rules.{slots_rules}
use Rattle.writer.specs.Pack.{pack_bytes}
use Rattle.writer.specs.Rules.{write_answer}
use Rattle.writer.proofs.Packed.{plan-end}

-- ---- where each rule ends the order
module _ (ds cs : List ℕ) (L room : ℕ) where
  abbrev long : ℕ
  long = length (pack_bytes ds cs L)

  abbrev counts : Answer
  counts = count_rules (length ds) (length cs) L

  -- the rules behind each
  abbrev from_room : Answer
  from_room = next (room_rule long room) (answer 0 (wholes (long ∷ [])))

  abbrev from_range : Answer
  from_range = next (range_rules cs) from_room

  abbrev plan : Answer
  plan = plan_rules (length ds) cs L

  -- the pack's length is the plan's end wherever the room is asked for
  pub slots-stop : (r : Refusal) → slots_rules (length ds) cs L room ≡ listed r → listed r ≡ write_answer ds cs L room
  slots-stop r q = go (eqb plan.number 0) refl q ∙ next-next counts (range_rules cs) from_room
    where
      go : (t : Bool) → eqb plan.number 0 ≡ t → pick t (room_rule (pack_plan (length ds) cs L).end room) plan ≡ listed r
          → listed r ≡ pick t from_room plan
      go true e q =
          let f : room_rule long room ≡ listed r = rw (plan-end ds cs L (eqb-true plan.number 0 e)) at q in
          rw (f, refused-not-done r)
      go false e q = sym q

  pub slots-pass : (slots_rules (length ds) cs L room).number ≡ 0 → (plan.number ≡ 0) × ((pack_plan (length ds) cs L).end ≤ room)
  slots-pass e =
      let n = (pack_plan (length ds) cs L).end in
      let t = next-zero plan (room_rule n room) e in
      (t.0, picked (λ (x : Answer). x.number ≡ 0 → n ≤ room) (ltb room n) (answer 5 (wholes (n ∷ room ∷ []))) passes (λ _ z. absurd (omega arith)) (λ f _. ltb-false room n f) t.1)

  module _ (c : counts.number ≡ 0) (g : (range_rules cs).number ≡ 0) where
    passed : {a : Answer} → a ≡ from_room → a ≡ write_answer ds cs L room
    passed e = e ∙ sym (next-passed counts from_range c ∙ next-passed (range_rules cs) from_room g)

    pub all_pass : long ≤ room → answer 0 (wholes (long ∷ [])) ≡ write_answer ds cs L room
    all_pass h = passed (rw (le-ltb room long h))
