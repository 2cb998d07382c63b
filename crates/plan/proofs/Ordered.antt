-- The rules in their order: where each ends it, and the plan where none does.
-- Assumes nothing.
use mathlib.Core.Path.{◌≡◌, sym, ap, ◌∙◌}
use mathlib.Core.List.{List}
use Prim.Native.Nat.{ℕ, min}
use native.Mathlib.Omega.{arith}
use lib.ListN.{length}
use Rattle.std.specs.Prelude.{Err, Result, ⊤}
use Rattle.answers.specs.Table.{Answer}
use Rattle.answers.specs.Listed.{listed, checked}
use Rattle.answers.specs.declared.Refusal.{Refusal}
use Rattle.answers.proofs.Next.{next-passed, stops}
use Rattle.layout.specs.Size.{max_slots}
use Rattle.plan.specs.declared.places.Plan.{Plan}
use Rattle.answers.specs.Outcome.{found, refused}
use Rattle.plan.specs.Listed.{counted, planned}
use Rattle.plan.specs.Places.{pack_plan, plan_of}
use Rattle.plan.specs.Rules.{count_rules, range_rules, plan_rules}
use Rattle.plan.specs.Zero.{zeros_before}
use Rattle.plan.proofs.Counts.{counts-tell}
use Rattle.answers.proofs.Outcome.{found-tells, refused-tells, found-where, refused-where}

module _ (n : ℕ) (cs : List ℕ) (L : ℕ) where
  abbrev counts : Answer
  counts = count_rules n (length cs) L

  abbrev zeros : ℕ
  zeros = zeros_before cs (length cs)

  abbrev plan : Plan
  plan = pack_plan n cs L

  pub counts-stop : {k : Result ⊤ Refusal} {r : Refusal} → checked k ≡ counts → k ≡ Err r → refused (listed r) ≡ planned n cs L
  counts-stop {r = r} e h = refused-where (plan_rules n cs L) plan r (sym (stops counts (range_rules cs) e h) ∙ ap checked h)

  module _ (c : counts.number ≡ 0) where
    pub range-stop : (r : Refusal) → refused (listed r) ≡ counted cs → refused (listed r) ≡ planned n cs L
    range-stop r e = refused-where (plan_rules n cs L) plan r (next-passed counts (range_rules cs) c ∙ refused-tells (range_rules cs) zeros e)

    -- the limit on the slots changes nothing
    pub bounded-slots : min (length cs) max_slots ≡ length cs
    bounded-slots = omega (arith, ((counts-tell n (length cs) L).done c).slots)

    pub all_pass : {z : ℕ} → found z ≡ counted cs → {p : Plan} → p ≡ plan_of n (min (length cs) max_slots) z L → found p ≡ planned n cs L
    all_pass {z} e {p} q =
        let t = found-tells (range_rules cs) zeros e in
        let s : p ≡ plan = q ∙ rw (bounded-slots, t.1) in
        rw s (found-where (plan_rules n cs L) plan (rw c t.0))
