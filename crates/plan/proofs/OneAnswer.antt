-- No second answer meets a contract: two that do are the same.
-- Assumes nothing.
use mathlib.Core.Path.{◌≡◌, sym, ap, ◌∙◌}
use Prim.Native.Nat.{ℕ}
use native.Mathlib.Omega.{arith}
use Rattle.std.specs.Prelude.{Err, Ok, Result}
use Rattle.answers.specs.OneAnswer.{OneResult}
use Rattle.answers.proofs.OneToOne.{listed-one}
use Rattle.plan.specs.Listed.{plan_listed}
use Rattle.plan.proofs.pack.plan_pack.Reads as plan-pack
use Rattle.plan.proofs.zero.zero_of.Reads as zero_of
use Rattle.plan.specs.declared.places.Plan.{Plan}
use Rattle.answers.specs.declared.Refusal.{Refusal}

pub plan-one : (r s : Result Plan Refusal) → plan_listed r ≡ plan_listed s → r ≡ s
plan-one (Ok p) (Ok q) e = cc
plan-one (Ok p) (Err s) e = absurd (let z : ◌≡◌ {A = ℕ} 0 1 = cc in omega arith)
plan-one (Err r) (Ok q) e = absurd (let z : ◌≡◌ {A = ℕ} 0 1 = cc in omega arith)
plan-one (Err r) (Err s) e = ap Err (listed-one r s (cc))

pub plan-pack-one : OneResult plan-pack.Learnt
plan-pack-one κs a r r' s s' p q = plan-one r r' (p ∙ sym q)

pub zero-of-one : OneResult zero_of.Learnt
zero-of-one κs a r r' s s' p q = p ∙ sym q
