-- A whole number of units of 2 ^ -l as the nearest binary64, and the two uses of it: whole numbers themselves, and
-- binary32's subnormals.
-- Assumes nothing.
use mathlib.Core.Path.{◌≡◌, sym, ap, ◌∙◌, subst}
use mathlib.Core.Bool.{false}
use Prim.Native.Nat.{ℕ, suc, ◌+◌, ◌-◌, ◌*◌, ◌%◌, ◌^◌, ◌≤◌, ◌<◌, min}
use native.Mathlib.Nat.{le_of_lt, add_comm, zero-add, mul-one, mod-eq_of_lt, min-eq_left}
use native.Mathlib.Omega.{arith}
use lib.Count.{count_leading_zeros, leading_top}
use lib.Dec.{lit≤}
use lib.IntN.{pos}
use borrow.Author.Tests.{le-ltb}
use lib.Pow.{pow_pos, shl_lt}
use lib.Ieee.{binary32, binary64, round, to_bits, of_bits, nan_bits, of_int}
use lib.Ieee.Bits.{nan_bits_above, of_bits-to_bits}
use lib.Ieee.Fits.{of_int-fits}
use lib.Ieee.Nearest.{closest}
use Rattle.numbers.specs.Conversions.{converted, nearest_bits}
use Rattle.numbers.proofs.Closest.{closest-le}
use Rattle.numbers.proofs.Rounding.{bits-of-round, rounded-bits}
use Rattle.numbers.proofs.Patterns.{subnormal-bits}

-- the nearest binary64 is never a NaN, and its bits give it back
pub nearest-number : (n : ℕ) → nan_bits binary64 (nearest_bits n) ≡ false
unfolding nearest_bits of_int
nearest-number n =
    nan_bits_above binary64 (nearest_bits n) ∙ le-ltb (2047 * 2 ^ 52) (nearest_bits n % 2 ^ 63) (omega (arith, bits-of-round binary64 false n 1))

pub nearest-value : (n : ℕ) → of_bits binary64 (nearest_bits n) ≡ of_int binary64 (pos n)
unfolding nearest_bits
nearest-value n = of_bits-to_bits binary64 (of_int binary64 (pos n)) (of_int-fits binary64 (pos n))

-- n has 64 digits once it is moved up by its d leading zeros, and 53 are kept
module _ (n z d : ℕ) (all : d + suc z ≡ 64) (lo : 2 ^ z ≤ n) (hi : n < 2 ^ suc z) where
  moved : n * 2 ^ d < 2 ^ 64
  moved = subst (λ (x : ℕ). n * 2 ^ d < 2 ^ x) (add_comm (suc z) d ∙ all) (shl_lt (suc z) d hi)

  few : closest (n * 2 ^ d) (2 ^ 11) ≤ 2 ^ 53
  few = closest-le (2 ^ 53) (2 ^ 11) (n * 2 ^ d) (pow_pos 11) (le_of_lt moved)

  units : (l : ℕ) → l ≤ 1021 → to_bits binary64 (round binary64 false (n * 2 ^ 0) (2 ^ l)) ≡ (1085 - d - l) * 2 ^ 52 + closest (n * 2 ^ d) (2 ^ 11)
  units l h =
      rounded-bits binary64 false n z 0 l hi lo (1085 - d - l) 11 d (omega arith) (omega arith)
      ∙ zero-add (min ((1085 - d - l) * 2 ^ 52 + closest (n * 2 ^ d) (2 ^ 11)) (2047 * 2 ^ 52))
      ∙ min-eq_left (omega (arith, few))

-- with the zeros that the machine counts
module _ (n : ℕ) (some : 0 < n) (fits : n < 2 ^ 64) where
  pub zeros-lt : count_leading_zeros 64 n < 64
  zeros-lt = let t = leading_top 64 n some fits in omega (arith, t.1)

  pub kept-few : closest (n * 2 ^ count_leading_zeros 64 n % 2 ^ 64) (2 ^ 11) ≤ 2 ^ 53
  kept-few = let t = leading_top 64 n some fits in rw (mod-eq_of_lt (moved n t.0 (count_leading_zeros 64 n) t.1 t.2 t.3)) (few n t.0 (count_leading_zeros 64 n) t.1 t.2 t.3)

  of-units : (l : ℕ) → l ≤ 1021
      → to_bits binary64 (round binary64 false (n * 2 ^ 0) (2 ^ l)) ≡ (1085 - count_leading_zeros 64 n - l) * 2 ^ 52 + closest (n * 2 ^ count_leading_zeros 64 n % 2 ^ 64) (2 ^ 11)
  of-units l h =
      let t = leading_top 64 n some fits in
      rw (mod-eq_of_lt (moved n t.0 (count_leading_zeros 64 n) t.1 t.2 t.3)) (units n t.0 (count_leading_zeros 64 n) t.1 t.2 t.3 l h)

  pub nearest-is : nearest_bits n ≡ (1085 - count_leading_zeros 64 n) * 2 ^ 52 + closest (n * 2 ^ count_leading_zeros 64 n % 2 ^ 64) (2 ^ 11)
  unfolding nearest_bits of_int
  nearest-is = ap (λ (x : ℕ). to_bits binary64 (round binary64 false x 1)) (sym (mul-one n)) ∙ of-units 0 (lit≤ tt) ∙ omega arith

  pub nearest-lt : nearest_bits n < 2 ^ 63
  nearest-lt = let k = kept-few in let e = nearest-is in omega arith

-- a subnormal binary32
pub subnormal-wide : (b : ℕ) → 0 < b → b < 2 ^ 23 → nearest_bits b ≡ converted binary32 binary64 b + 149 * 2 ^ 52
subnormal-wide b some h =
    let f : b < 2 ^ 64 = omega arith in
    let z = zeros-lt b some f in
    let w = subnormal-bits binary32 binary64 b (omega arith) h ∙ of-units b some f 149 (lit≤ tt) in
    let n = nearest-is b some f in
    omega arith
