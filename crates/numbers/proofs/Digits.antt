-- The laws of `spelt` and `digits`, over every base, mark and width.
-- Assumes nothing.
use mathlib.Core.Path.{◌≡◌, refl}
use mathlib.Core.List.{List, [], ◌∷◌, ◌++◌, append-nil, append_assoc}
use Prim.Native.Nat.{ℕ, zero, suc, ◌+◌, ◌*◌, ◌-◌, ◌/◌, ◌%◌, ◌^◌, ◌≤◌, ◌<◌}
use native.Mathlib.Nat.{pow-suc, pow-succ', pow-zero, div-one, div-div-eq-div-mul, mul-one, mul_assoc, add-mul, mod-one, mod-mod, mod-lt, add-zero, add-suc, zero-add, zero-mul, one-mul, mod-eq_of_lt, le_trans, one-le-pow, mul-add-mod_self_right, le-mul_of_pos_right}
use native.Mathlib.Numerals.{add-one}
use native.Mathlib.Omega.{arith}
use lib.Arith.{digits_lt, digits_div, digits_mod, mod-mul}
use lib.ListN.{length, take, drop, set, get_or, length-append, length-set, take-append-drop}
use lib.Seq.{take-suc, append_snoc, take-take}
use Rattle.numbers.specs.Digits.{spelt, digits, Below}

module _ (base : ℕ) where
  pub spelt-append : (a : ℕ) (l m : List ℕ) → spelt base a (l ++ m) ≡ spelt base (spelt base a l) m
  spelt-append a [] m = refl
  spelt-append a (d ∷ ds) m = spelt-append (a * base + d % base) ds m

  -- one digit more is read
  pub spelt-more : (a : ℕ) (l : List ℕ) (i : ℕ) → i < length l
      → spelt base a (take (i + 1) l) ≡ spelt base a (take i l) * base + get_or l i 0 % base
  spelt-more a l i h = rw (add-one, take-suc l i 0, spelt-append)

  pub length_digits : (mark k n : ℕ) → length (digits base mark k n) ≡ k
  length_digits mark zero n = refl
  length_digits mark (suc k) n = rw (length-append, length_digits mark k (n / base)) (add-one k)

  -- the digits above, and those below
  pub digits-split : (mark j k n : ℕ) → digits base mark (j + k) n ≡ digits base mark j (n / base ^ k) ++ digits base mark k n
  digits-split mark j zero n = rw (add-zero, pow-zero, div-one, append-nil)
  digits-split mark j (suc k) n =
      rw (add-suc, digits-split mark j k (n / base), div-div-eq-div-mul, ← pow-succ', append_assoc)

  digits_onto : (j a : ℕ) (l : List ℕ) → Below base l → digits base 0 (j + length l) (spelt base a l) ≡ digits base 0 j a ++ l
  digits_onto j a [] h = rw (add-zero, append-nil)
  digits_onto j a (d ∷ ds) h =
      let p : j + suc (length ds) ≡ suc j + length ds = omega arith in
      let q = digits_onto (suc j) (a * base + d) ds (λ i. h (suc i)) in
      rw (p, mod-eq_of_lt (h 0), q, digits_div a (h 0), digits_mod a (h 0), zero-mul, zero-add, append_snoc)

  -- writing what was read
  pub digits-spelt : (l : List ℕ) → Below base l → digits base 0 (length l) (spelt base 0 l) ≡ l
  digits-spelt l h = rw zero-add at (digits_onto 0 0 l h)

  module _ (positive : 0 < base) where
    pub spelt-lt : (a m : ℕ) → a < m → (l : List ℕ) → spelt base a l < m * base ^ length l
    spelt-lt a m h [] = rw (pow-zero, mul-one) h
    spelt-lt a m h (d ∷ ds) = rw (pow-succ', ← mul_assoc) (spelt-lt (a * base + d % base) (m * base) (digits_lt h (mod-lt d positive)) ds)

    -- reading what was written
    pub spelt-digits : (a mark k n : ℕ) → spelt base a (digits base mark k n) ≡ a * base ^ k + n % base ^ k
    spelt-digits a mark zero n = rw (pow-zero, mod-one) (omega arith)
    spelt-digits a mark (suc k) n =
        let p = mod-mul n (one-le-pow k base positive) positive in
        rw (spelt-append, spelt-digits a mark k (n / base), mul-add-mod_self_right, mod-mod, pow-suc, p, ← mul_assoc, add-mul) (omega arith)

    spelt-le : (a : ℕ) (l : List ℕ) → a ≤ spelt base a l
    spelt-le a [] = omega arith
    spelt-le a (d ∷ ds) = le_trans (omega (arith, le-mul_of_pos_right a positive)) (spelt-le (a * base + d % base) ds)

    -- what the digits were read after
    pub spelt-high : (a : ℕ) (l : List ℕ) → spelt base a l / base ^ length l ≡ a
    spelt-high a [] = rw pow-zero (div-one a)
    spelt-high a (d ∷ ds) =
        let b = mod-lt d positive in
        rw (pow-suc, ← div-div-eq-div-mul, spelt-high (a * base + d % base) ds) (digits_div a b)

    -- and what they spell by themselves
    spelt-onto : (a : ℕ) (l : List ℕ) → spelt base a l ≡ a * base ^ length l + spelt base 0 l
    spelt-onto a [] = rw pow-zero (omega arith)
    spelt-onto a (d ∷ ds) =
        rw (spelt-onto (a * base + d % base) ds, spelt-onto (0 * base + d % base) ds, pow-succ') (omega arith)

    pub spelt-low : (a : ℕ) (l : List ℕ) → spelt base a l % base ^ length l ≡ spelt base 0 l
    spelt-low a l =
        let h = rw one-mul at (spelt-lt 0 1 (omega arith) l) in
        rw (spelt-onto a l, mul-add-mod_self_right) (mod-eq_of_lt h)

    -- more digits never spell less
    pub spelt-take-le : (a : ℕ) {j k : ℕ} (l : List ℕ) → j ≤ k → spelt base a (take j l) ≤ spelt base a (take k l)
    spelt-take-le a {j} {k} l h =
        rw (← (take-append-drop j (take k l)), spelt-append, take-take) (spelt-le (spelt base a (take j l)) (drop j (take k l)))

-- what lies behind a store
pub drop-set : (l : List ℕ) (i x : ℕ) → i < length l → drop i (set l i x) ≡ x ∷ drop (suc i) l
drop-set [] i x h = absurd (omega arith)
drop-set (a ∷ l) zero x h = refl
drop-set (a ∷ l) (suc i) x h = drop-set l i x (omega arith)

-- a loop that stores digits from the back: with the i digits of n to come, l is what l₀ was to be with i₀ digits of n₀
pub record Back (base mark i₀ n₀ : ℕ) (l₀ : List ℕ) (i n : ℕ) (l : List ℕ) : Type 0 where
  pub within : i ≤ length l
  pub long : length l ≡ length l₀
  pub is : digits base mark i n ++ drop i l ≡ digits base mark i₀ n₀ ++ drop i₀ l₀

module _ {base mark i₀ n₀ : ℕ} {l₀ : List ℕ} where
  pub back_none : i₀ ≤ length l₀ → Back base mark i₀ n₀ l₀ i₀ n₀ l₀
  back_none h = record { within = h; long = refl; is = refl }

  -- one digit more is stored
  pub back_more : {i n : ℕ} {l : List ℕ} {x : ℕ} → Back base mark i₀ n₀ l₀ i n l → 0 < i → x ≡ mark * base + n % base
      → Back base mark i₀ n₀ l₀ (i - 1) (n / base) (set l (i - 1) x)
  back_more {i = zero} b h e = absurd (omega arith)
  back_more {i = suc i} {n} {l} b h e =
      let p : suc i - 1 ≡ i = omega arith in
      let k : i < length l = b.within in
      record {
        within = simp length-set (omega arith);
        long = rw length-set b.long;
        is = rw (e, p, drop-set l i) (rw append_snoc at b.is);
      }

  pub back_done : {i n : ℕ} {l : List ℕ} → Back base mark i₀ n₀ l₀ i n l → i ≡ 0 → l ≡ digits base mark i₀ n₀ ++ drop i₀ l₀
  back_done b e = rw e at b.is
