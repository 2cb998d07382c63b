-- What the plan and its parts answer, by the rules.
use Rattle.std.specs.Prelude.{ℕ, List, length, Err, Ok, Result}
use Rattle.answers.specs.Table.{pick}
use Rattle.answers.specs.Listed.{listed}
use Rattle.answers.specs.Outcome.{Outcome, found, refused, unless}
use Rattle.imapb.specs.Tables.{range_rule}
use Rattle.plan.specs.declared.places.Plan.{Plan}
use Rattle.plan.specs.Zero.{is_zero, zeros_before}
use Rattle.plan.specs.Rules.{range_rules, plan_rules}
use Rattle.plan.specs.Places.{pack_plan}
use Rattle.answers.specs.declared.Refusal.{Refusal}

-- ---- the zeros of one correlation, and of all
abbrev pub count_listed : Result ℕ Refusal → Outcome ℕ
count_listed (Ok z) = found z
count_listed (Err r) = refused (listed r)

abbrev pub counted_one : ℕ → Outcome ℕ
counted_one c = unless (range_rule c) (pick (is_zero c) 1 0)

abbrev pub counted : List ℕ → Outcome ℕ
counted cs = unless (range_rules cs) (zeros_before cs (length cs))

-- ---- the plan
abbrev pub plan_listed : Result Plan Refusal → Outcome Plan
plan_listed (Ok p) = found p
plan_listed (Err r) = refused (listed r)

abbrev pub planned : ℕ → List ℕ → ℕ → Outcome Plan
planned n cs L = unless (plan_rules n cs L) (pack_plan n cs L)
