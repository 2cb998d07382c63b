-- How long elements 3 and 5 are: the plan's places leave them room.
-- Assumes nothing.
use mathlib.Core.Path.{◌≡◌, refl, sym}
use mathlib.Core.Bool.{Bool, true, false, not}
use mathlib.Core.List.{List, []}
use Prim.Native.Nat.{ℕ, zero, suc, ◌+◌, ◌-◌, ◌*◌, ◌/◌}
use native.Mathlib.Nat.{zero-mul, suc-mul}
use native.Mathlib.Omega.{arith}
use lib.ListN.{length, get_or, length-append}
use Rattle.answers.specs.Table.{pick}
use Rattle.answers.specs.Lent.{joined}
use Rattle.answers.proofs.Lent.{length-tab}
use Rattle.answers.proofs.Joined.{length-joined}
use Rattle.numbers.proofs.Bytes.{length-bytes}
use Rattle.plan.specs.Places.{vector_length, sent_count, pack_plan}
use Rattle.plan.specs.Rules.{plan_rules}
use Rattle.plan.specs.Zero.{is_zero, zeros_before}
use Rattle.plan.proofs.Checked.{zeros-le}
use Rattle.plan.proofs.Counts.{plan-counts, plan-values}
use Rattle.slots.specs.Fill.{SlotsFit}
use Rattle.slots.specs.Slots.{coded, element3, element5, vector_byte, code_bytes}

pub length-3 : (sparse : Bool) (cs : List ℕ) → length (element3 sparse cs) ≡ vector_length sparse (length cs)
length-3 true cs = length-tab ((length cs + 7) / 8) (vector_byte true cs)
length-3 false cs = refl

-- of the first k slots
module _ (cs : List ℕ) (L : ℕ) where
  length-sent : (sparse : Bool) (k : ℕ) → length (joined k (code_bytes sparse cs L)) ≡ sent_count sparse k (zeros_before cs k) * L
  length-sent false k = length-joined (code_bytes false cs L) L (λ k. length-bytes L _) k
  length-sent true zero = sym (zero-mul L)
  length-sent true (suc k) =
      rw (length-append, length-sent true k)
      (turn (is_zero (get_or cs k 0)))
    where
      turn : (z : Bool) → (k - zeros_before cs k) * L + length (pick (not z) (coded L (get_or cs k 0)) []) ≡ (suc k - (zeros_before cs k + pick z 1 0)) * L
      turn true = let e : suc k - (zeros_before cs k + 1) ≡ k - zeros_before cs k = omega arith in rw e (omega arith)
      turn false =
          let e : suc k - (zeros_before cs k + 0) ≡ suc (k - zeros_before cs k) = omega (arith, zeros-le cs k) in
          rw (e, length-bytes) (omega (arith, suc-mul (k - zeros_before cs k) L))

  pub length-5 : (sparse : Bool) → length (element5 sparse cs L) ≡ sent_count sparse (length cs) (zeros_before cs (length cs)) * L
  length-5 sparse = length-sent sparse (length cs)

-- where no rule refuses
pub slots-fit : (n : ℕ) (cs : List ℕ) (L : ℕ) → (plan_rules n cs L).number ≡ 0 → let p = pack_plan n cs L in
    SlotsFit p.sparse cs L p.vector p.codes p.end p.end
slots-fit n cs L e =
    record {
      codable = record { clen = (plan-counts n cs L e).clen; values = plan-values n cs L e };
      slots = (plan-counts n cs L e).slots;
      behind = rw length-3 (omega arith);
      ends = rw length-5;
      within = omega arith;
    }
