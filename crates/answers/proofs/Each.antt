-- Rules one after the other: the first that refuses is the answer of all, and where none does they pass.
-- Assumes nothing.
use mathlib.Core.Path.{◌≡◌, refl}
use mathlib.Core.Logic.{⊎_elim}
use Prim.Native.Nat.{ℕ, zero, suc, ◌+◌, ◌<◌}
use native.Mathlib.Nat.{le_of_suc-le-suc, eq-or-lt_of_le}
use native.Mathlib.Numerals.{add-one}
use native.Mathlib.Omega.{arith}
use Rattle.answers.specs.declared.Refusal.{Refusal}
use Rattle.answers.specs.Table.{Answer, passes, each}
use Rattle.answers.specs.Listed.{listed}
use Rattle.answers.proofs.Next.{next-zero}
use Rattle.answers.proofs.OneToOne.{refused-not-done}

module _ (rule : ℕ → Answer) where
  pub each_more : (k : ℕ) → each k rule ≡ passes → rule k ≡ passes → each (k + 1) rule ≡ passes
  each_more k e p = rw (add-one, e, p)

  pub each-stops : (n k : ℕ) (r : Refusal) → k < n → each k rule ≡ passes → listed r ≡ rule k → listed r ≡ each n rule
  each-stops zero k r h e p = absurd (omega arith)
  each-stops (suc n) k r h e p =
      ⊎_elim (λ (q : k ≡ n). rw (← q, e, p)) (λ l. rw (← (each-stops n k r l e p), refused-not-done r))
      (eq-or-lt_of_le (le_of_suc-le-suc h))

  -- where all of them pass, each does
  pub each-passes : (n k : ℕ) → k < n → (each n rule).number ≡ 0 → (rule k).number ≡ 0
  each-passes zero k h z = absurd (omega arith)
  each-passes (suc n) k h z =
      let p = next-zero (each n rule) (rule n) z in
      ⊎_elim (λ (q : k ≡ n). rw q p.1) (λ l. each-passes n k l p.0) (eq-or-lt_of_le (le_of_suc-le-suc h))

  pub each_all : (n : ℕ) → ((k : ℕ) → k < n → rule k ≡ passes) → each n rule ≡ passes
  each_all zero h = refl
  each_all (suc n) h = rw (each_all n (λ k l. h k (omega arith)), h n (omega arith))
