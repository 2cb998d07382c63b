-- The one pass over the correlations: what is checked and counted after k turns.
-- Assumes nothing.
use mathlib.Core.Path.{◌≡◌, refl, ap, ◌∙◌}
use mathlib.Core.List.{List}
use Prim.Native.Nat.{ℕ, zero, suc, ◌+◌, ◌≤◌, ◌<◌}
use native.Mathlib.Numerals.{add-one}
use native.Mathlib.Omega.{arith}
use lib.ListN.{length, get_or, drop, drop_of_length-le}
use lib.Seq.{drop-cons}
use Rattle.answers.specs.Table.{pick, passes, next}
use Rattle.answers.specs.Listed.{listed}
use Rattle.answers.specs.declared.Refusal.{Refusal}
use Rattle.answers.proofs.Next.{next-passed}
use Rattle.answers.proofs.OneToOne.{refused-not-done}
use Rattle.answers.proofs.Rules.{picked}
use Rattle.imapb.specs.Tables.{range_rule}
use Rattle.answers.specs.Outcome.{found, refused}
use Rattle.plan.specs.Listed.{counted_one, counted}
use Rattle.plan.specs.Rules.{range_rules}
use Rattle.plan.specs.Zero.{is_zero, zeros_before}
use Rattle.answers.proofs.Outcome.{found-tells, refused-tells, refused-where}

pub zeros-le : (cs : List ℕ) (k : ℕ) → zeros_before cs k ≤ k
zeros-le cs zero = omega arith
zeros-le cs (suc k) =
    picked (λ (z : ℕ). zeros_before cs k + z ≤ suc k) (is_zero (get_or cs k 0)) 1 0 (λ _. omega (arith, zeros-le cs k)) (λ _. omega (arith, zeros-le cs k))

-- after k turns: the rules that are left, and the zeros that were met
pub record Passed (cs : List ℕ) (z k : ℕ) : Type 0 where
  pub within : k ≤ length cs
  pub left : range_rules cs ≡ range_rules (drop k cs)
  pub count : z ≡ zeros_before cs k

pub passed_none : (cs : List ℕ) → Passed cs 0 0
passed_none cs = record { within = omega arith; left = refl; count = refl }

module _ {cs : List ℕ} {z k : ℕ} (p : Passed cs z k) where
  module _ (h : k < length cs) where
    first-left : range_rules cs ≡ next (range_rule (get_or cs k 0)) (range_rules (drop (suc k) cs))
    first-left = p.left ∙ ap range_rules (drop-cons cs k 0 h)

    pub passed-more : (range_rule (get_or cs k 0)).number ≡ 0 → {x : ℕ} → x ≡ pick (is_zero (get_or cs k 0)) 1 0 → Passed cs (z + x) (k + 1)
    passed-more e {x} q = rw add-one (record {
      within = h;
      left = first-left ∙ next-passed (range_rule (get_or cs k 0)) (range_rules (drop (suc k) cs)) e;
      count = omega (arith, p.count, q);
    })

    -- by the answer for one correlation
    pub passed-found : {x : ℕ} → found x ≡ counted_one (get_or cs k 0) → Passed cs (z + x) (k + 1)
    passed-found {x} e = let t = found-tells (range_rule (get_or cs k 0)) (pick (is_zero (get_or cs k 0)) 1 0) e in passed-more t.0 t.1

    pub passed-refused : (r : Refusal) → refused (listed r) ≡ counted_one (get_or cs k 0) → refused (listed r) ≡ counted cs
    passed-refused r e =
        let t : range_rule (get_or cs k 0) ≡ listed r = refused-tells (range_rule (get_or cs k 0)) (pick (is_zero (get_or cs k 0)) 1 0) e in
        refused-where (range_rules cs) (zeros_before cs (length cs)) r (first-left ∙ rw (t, refused-not-done r))

  pub passed-all : length cs ≤ k → found z ≡ counted cs
  passed-all h =
      let l : range_rules cs ≡ passes = p.left ∙ ap range_rules (drop_of_length-le cs h) in
      let n : k ≡ length cs = omega (arith, p.within) in
      rw (l, p.count, n)
