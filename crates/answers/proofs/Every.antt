-- A test of each of 0 to n-1, one by one, and as a loop makes it.
-- Assumes nothing.
use mathlib.Core.Path.{◌≡◌, refl, sym, ap, ◌∙◌}
use mathlib.Core.Bool.{Bool, true, false, ◌&&◌, and-eq-true_iff, and-true, and-false, and_assoc}
use mathlib.Core.Logic.{inl, inr}
use Prim.Native.Nat.{ℕ, zero, suc, ◌+◌, ◌≤◌, ◌<◌}
use native.Mathlib.Nat.{le_of_suc-le-suc, eq-or-lt_of_le}
use native.Mathlib.Numerals.{add-one}
use native.Mathlib.Omega.{arith}
use Rattle.answers.specs.Every.{every}

-- ---- one by one
-- one that fails
pub every-not : (n : ℕ) (b : ℕ → Bool) (k : ℕ) → k < n → b k ≡ false → every n b ≡ false
every-not zero b k h e = absurd (omega arith)
every-not (suc n) b k h e =
    elim (eq-or-lt_of_le (le_of_suc-le-suc h)) [
      | inl q ↦ rw (← q, e) (and-false (every k b))
      | inr l ↦ rw (every-not n b k l e)
    ]

-- all hold
pub every_true : (n : ℕ) (b : ℕ → Bool) → ((k : ℕ) → k < n → b k ≡ true) → every n b ≡ true
every_true zero b h = refl
every_true (suc n) b h = rw (every_true n b (λ k l. h k (omega arith)), h n (omega arith))

-- and then each does
pub every-each : (n : ℕ) (b : ℕ → Bool) → every n b ≡ true → (k : ℕ) → k < n → b k ≡ true
every-each zero b e k h = absurd (omega arith)
every-each (suc n) b e k h =
    let p = (and-eq-true_iff (every n b) (b n)).0 e in
    elim (eq-or-lt_of_le (le_of_suc-le-suc h)) [
      | inl q ↦ rw q p.1
      | inr l ↦ every-each n b p.0 k l
    ]

-- ---- tests that are the same, the first apart from the others, and two side by side
pub every-same : (n : ℕ) {a b : ℕ → Bool} → ((k : ℕ) → k < n → a k ≡ b k) → every n a ≡ every n b
every-same zero h = refl
every-same (suc n) h = rw (every-same n (λ k l. h k (omega arith)), h n (omega arith))

pub every_front : (n : ℕ) (b : ℕ → Bool) → every (suc n) b ≡ (b 0 && every n (λ k. b (suc k)))
every_front zero b = sym (and-true (b 0))
every_front (suc n) b = ap (λ (x : Bool). x && b (suc n)) (every_front n b) ∙ and_assoc (b 0) (every n (λ k. b (suc k))) (b (suc n))

pub every-both : (n : ℕ) (a b : ℕ → Bool) → every n (λ k. a k && b k) ≡ (every n a && every n b)
every-both zero a b = refl
every-both (suc n) a b = rw (every-both n a b) (across (every n a) (every n b) (a n) (b n))
  where
    across : (p q x y : Bool) → (p && q) && (x && y) ≡ ((p && x) && (q && y))
    across true true x y = refl
    across true false x y = sym (and-false x)
    across false q x y = refl

-- ---- as a loop makes it
-- after i turns
pub record Tested (n : ℕ) (b : ℕ → Bool) (i : ℕ) : Type 0 where
  pub within : i ≤ n
  pub hold : every i b ≡ true

-- before the first
pub tested-none : (n : ℕ) (b : ℕ → Bool) → Tested n b 0
tested-none n b = record { within = omega arith; hold = refl }

module _ {n : ℕ} {b : ℕ → Bool} {i : ℕ} (t : Tested n b i) where
  -- one more holds
  pub tested-more : i < n → b i ≡ true → Tested n b (i + 1)
  tested-more h e = record { within = omega arith; hold = rw (add-one, t.hold, e) }

  -- one fails
  pub tested-not : i < n → b i ≡ false → false ≡ every n b
  tested-not h e = sym (every-not n b i h e)

  -- none is left
  pub tested-all : n ≤ i → true ≡ every n b
  tested-all h = let e : n ≡ i = omega (arith, t.within) in rw (e, t.hold)
