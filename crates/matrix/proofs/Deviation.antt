-- A number is finite and at least 0 exactly where its bits lie below those of the infinity, or are those of -0.0.
-- Assumes nothing.
use mathlib.Core.Path.{◌≡◌, refl}
use mathlib.Core.Bool.{Bool, true, false, ◌&&◌, ◌||◌, cond}
use mathlib.Core.Logic.{inl, inr, by_cases}
use Prim.Native.Nat.{ℕ, zero, suc, ◌+◌, ◌*◌, ◌/◌, ◌%◌, ◌^◌, ◌≤◌, ◌<◌}
use native.Mathlib.Nat.{zero-mul, mul-pos, eq-or-lt_of_le}
use native.Mathlib.Decide.{dec_lt, ℕ_discrete}
use native.Mathlib.Omega.{arith}
use borrow.Author.Tests.{lt-ltb, lt-leb, le-leb, ne_eqb}
use lib.Dec.{ltb, eqb}
use lib.Pow.{pow_pos}
use lib.Ieee.{Float, nan, inf, fin, binary64, up, down, of_fields, of_bits, le}
use lib.Ieee.Exact.{HasValue}
use lib.Ieee.Fits.{down_pos}
use Rattle.numbers.proofs.Patterns.{subnormal-value, normal-value}
use Rattle.matrix.specs.Usable.{at_least_zero, is_deviation}

-- ---- by the value
-- 0 is below every size, or equal to it
from_zero : (z a : ℕ) → z ≡ 0 → ltb z a || (eqb z a && true) ≡ true
from_zero z zero e = rw e
from_zero z (suc a) e = rw (lt-ltb z (suc a) (omega arith))

-- a size of a / c is 0 only where a is
some : (n a c d : ℕ) → 0 < a → 0 < d → n * c ≡ a * d → 0 * 1 * d ≡ n * 1 → ⊥
some zero a c d p q e z = omega (arith, zero-mul c, mul-pos p q)
some (suc n) a c d p q e z = omega (arith, zero-mul d)

-- without a sign
value_in : (x : Float) (a c : ℕ) → HasValue x false a c → at_least_zero x ≡ true
unfolding le
value_in nan a c h = absurd h
value_in (inf t) a c h = absurd h
value_in (fin t m e) a c h = rw h.0 (from_zero (0 * 1 * down e) (m * up e * 1) (zero-mul (down e)))

-- with a sign, and not 0
value_out : (x : Float) (a c : ℕ) → 0 < a → HasValue x true a c → at_least_zero x ≡ false
unfolding le
value_out nan a c p h = absurd h
value_out (inf t) a c p h = absurd h
value_out (fin t m e) a c p h = rw (h.0, ne_eqb (0 * 1 * down e) (m * up e * 1) (some (m * up e) a c (down e) p (down_pos e) h.1))

-- ---- by the fields
-- neither an infinity nor a NaN is finite
no_number : (s z : Bool) → at_least_zero (cond z (inf s) nan) ≡ false
no_number s true = refl
no_number s false = refl

-- the last exponent: an infinity or a NaN
fields-last : (s : Bool) (t : ℕ) → at_least_zero (of_fields binary64 s 2047 t) ≡ false
unfolding of_fields
fields-last s t = no_number s (eqb t 0)

-- a number without a sign
fields_in : (x t : ℕ) → x < 2047 → at_least_zero (of_fields binary64 false x t) ≡ true
fields_in zero t h = value_in (of_fields binary64 false 0 t) (t * 2 ^ 0) (2 ^ 1074) (subnormal-value binary64 false t)
fields_in (suc j) t h = value_in (of_fields binary64 false (suc j) t) ((2 ^ 52 + t) * 2 ^ j) (2 ^ 1074) (normal-value binary64 false j t h)

-- a sign, and some bit more
fields_out : (x t : ℕ) → x ≤ 2047 → 0 < x * 2 ^ 52 + t → at_least_zero (of_fields binary64 true x t) ≡ false
fields_out zero t k h = value_out (of_fields binary64 true 0 t) (t * 2 ^ 0) (2 ^ 1074) (omega arith) (subnormal-value binary64 true t)
fields_out (suc j) t k h =
    elim (eq-or-lt_of_le k) [
      | inl e ↦ rw e (fields-last true t)
      | inr l ↦
          value_out (of_fields binary64 true (suc j) t) ((2 ^ 52 + t) * 2 ^ j) (2 ^ 1074)
          (mul-pos {m = 2 ^ 52 + t} {n = 2 ^ j} (omega arith) (pow_pos j)) (normal-value binary64 true j t l)
    ]

-- ---- by the bits
module _ (b : ℕ) where
  -- below the infinity every number is at least 0
  pub deviation-in : b < 0x7ff0000000000000 → is_deviation b ≡ true
  unfolding of_bits
  deviation-in h = rw (lt-leb (2 ^ 63) b (omega arith)) (fields_in (b % 2 ^ 63 / 2 ^ 52) (b % 2 ^ 52) (omega arith))

  -- no sign, from the infinity on
  no_size : 0x7ff0000000000000 ≤ b → b < 2 ^ 63 → is_deviation b ≡ false
  unfolding of_bits
  no_size h l =
      let e : b % 2 ^ 63 / 2 ^ 52 ≡ 2047 = omega arith in
      rw (lt-leb (2 ^ 63) b l, e) (fields-last false (b % 2 ^ 52))

  -- a sign, and no zero
  below-zero : 2 ^ 63 < b → b < 2 ^ 64 → is_deviation b ≡ false
  unfolding of_bits
  below-zero h l = rw (le-leb (2 ^ 63) b (omega arith)) (fields_out (b % 2 ^ 63 / 2 ^ 52) (b % 2 ^ 52) (omega arith) (omega arith))

-- -0.0
minus-zero : is_deviation (2 ^ 63) ≡ true
unfolding of_bits le
minus-zero = refl

-- from the infinity on only -0.0 is at least 0
pub deviation-past : (b : ℕ) → 0x7ff0000000000000 ≤ b → b < 2 ^ 64 → eqb b 0x8000000000000000 ≡ is_deviation b
deviation-past b h l =
    by_cases (ℕ_discrete b (2 ^ 63)) (λ (e : b ≡ 2 ^ 63). rw (e, minus-zero))
    (λ (e : b ≡ 2 ^ 63 → ⊥).
    rw (ne_eqb b (2 ^ 63) e)
    (by_cases (dec_lt b (2 ^ 63)) (λ k. rw (no_size b h k)) (λ k. rw (below-zero b (omega arith) l))))
