-- What the rules tell where they pass.
-- Assumes nothing.
use mathlib.Core.Path.{◌≡◌}
use mathlib.Core.Bool.{false, not, and-eq-true_iff}
use mathlib.Core.List.{List, [], ◌∷◌}
use Prim.Native.Nat.{ℕ, zero, suc, ◌≤◌}
use native.Mathlib.Omega.{arith}
use borrow.Author.Tests.{eqb-true, ltb-false, leb-true, not-false}
use lib.Dec.{eqb, ltb, leb}
use lib.ListN.{length}
use Rattle.answers.proofs.Next.{next-zero, Says, rules}
use Rattle.imapb.specs.Tables.{supported, range_rule}
use Rattle.imapb.proofs.Range.{in-range, range-told}
use Rattle.layout.specs.Size.{max_rows, max_slots}
use Rattle.layout.specs.Triangle.{slots_of}
use Rattle.layout.proofs.RowByRow.{few-slots}
use Rattle.plan.specs.Rules.{Supported, InRange, count_rules, range_rules, plan_rules}

-- the counts
pub record Counts (n m L : ℕ) : Type 0 where
  pub rows : n ≤ max_rows
  pub slots : m ≤ max_slots
  pub clen : Supported L

few : (n m : ℕ) → ltb max_rows n ≡ false → not (eqb m (slots_of n)) ≡ false → m ≤ max_slots
few n m e q = rw (eqb-true m (slots_of n) (not-false (eqb m (slots_of n)) q)) (few-slots n (ltb-false max_rows n e))

both : (L : ℕ) → not (supported L) ≡ false → Supported L
both L t = let p = (and-eq-true_iff (leb 1 L) (leb L 8)).0 (not-false (supported L) t) in (leb-true 1 L p.0, leb-true L 8 p.1)

pub counts-tell : (n m L : ℕ) → Says (λ _. Counts n m L) (count_rules n m L)
counts-tell n m L = search (rules, ltb-false, few, both) depth 9

-- each correlation, and those past the last, which count as +0.0
pub all_in : (cs : List ℕ) → (range_rules cs).number ≡ 0 → InRange cs
all_in [] e k = rw (in-range 0 (omega arith)) tt
all_in (c ∷ cs) e zero = rw (range-told c (next-zero (range_rule c) (range_rules cs) e).0) tt
all_in (c ∷ cs) e (suc k) = all_in cs (next-zero (range_rule c) (range_rules cs) e).1 k

-- all of them
module _ (n : ℕ) (cs : List ℕ) (L : ℕ) (e : (plan_rules n cs L).number ≡ 0) where
  pub both-pass : ((count_rules n (length cs) L).number ≡ 0) × ((range_rules cs).number ≡ 0)
  both-pass = next-zero (count_rules n (length cs) L) (range_rules cs) e

  pub plan-counts : Counts n (length cs) L
  plan-counts = (counts-tell n (length cs) L).done both-pass.0

  pub plan-values : InRange cs
  plan-values = all_in cs both-pass.1
