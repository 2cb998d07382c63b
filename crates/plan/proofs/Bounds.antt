-- How large the plan's numbers can be.
-- Assumes nothing.
use mathlib.Core.Bool.{Bool, true, false}
use Prim.Native.Nat.{ℕ, ◌*◌, ◌/◌, ◌+◌, ◌≤◌}
use native.Mathlib.Nat.{mul-le-mul}
use native.Mathlib.Omega.{arith}
use Rattle.layout.specs.Size.{max_slots}
use Rattle.plan.specs.Places.{vector_length, sent_count}

pub vector-le : (sparse : Bool) (M : ℕ) → vector_length sparse M ≤ (M + 7) / 8
vector-le true M = omega arith
vector-le false M = omega arith

pub sent-le : (sparse : Bool) (M Z : ℕ) → sent_count sparse M Z ≤ M
sent-le true M Z = omega arith
sent-le false M Z = omega arith

-- a product of a count of slots and a length
pub product_le : {k L : ℕ} → k ≤ max_slots → L ≤ 8 → k * L ≤ max_slots * 8
product_le {k} {L} h l = mul-le-mul {n₁ = k} {m₁ = L} {n₂ = max_slots} {m₂ = 8} h l
