-- What `converted` makes of a binary64 pattern b without its sign, arm by arm of `narrow_size`.
-- Assumes nothing.
use mathlib.Core.Path.{◌≡◌, refl, sym, ap, ◌∙◌}
use mathlib.Core.Bool.{false}
use Prim.Native.Nat.{ℕ, zero, suc, ◌+◌, ◌-◌, ◌*◌, ◌/◌, ◌%◌, ◌^◌, ◌≤◌, ◌<◌, min}
use native.Mathlib.Nat.{zero-add, mul-one, eq-or-lt_of_le}
use native.Mathlib.Omega.{arith}
use mathlib.Core.Logic.{inl, inr}
use lib.Dec.{lit≤}
use lib.Pow.{pow_pos, pow_mono}
use lib.Ieee.{binary32, binary64, to_bits, nan_bits, of_bits}
use lib.Ieee.Nearest.{closest}
use Rattle.numbers.specs.Conversions.{nearest, converted}
use Rattle.numbers.proofs.Closest.{closest-le}
use Rattle.numbers.proofs.Rounding.{rounded-bits, tiny-bits}
use Rattle.numbers.proofs.Patterns.{nan-bits, subnormal-bits, normal-bits}

module _ (b : ℕ) (B : b < 2 ^ 63) where
  zero_arm : (x : ℕ) → b / 2 ^ 52 ≡ x → x < 873 → converted binary64 binary32 b ≡ 0
  zero_arm zero e h =
      let s : b < 2 ^ 52 = omega arith in
      subnormal-bits binary64 binary32 b B s ∙ tiny-bits binary32 b 52 0 1074 s (lit≤ tt)
  zero_arm (suc j) e h =
      normal-bits binary64 binary32 b B j e (omega arith) ∙ tiny-bits binary32 (2 ^ 52 + b % 2 ^ 52) 53 j 1074 (omega arith) (omega arith)

  -- k digits go into the field, and c are rounded off
  normal : (x k c : ℕ) → b / 2 ^ 52 ≡ x → 1 ≤ x → x < 2047 → x - 897 ≡ k → x + 148 + c ≡ 1074 + k
      → converted binary64 binary32 b ≡ min (k * 2 ^ 23 + closest (2 ^ 52 + b % 2 ^ 52) (2 ^ c)) (255 * 2 ^ 23)
  normal zero k c e l h K C = absurd (omega arith)
  normal (suc j) k c e l h K C =
      let m = 2 ^ 52 + b % 2 ^ 52 in
      normal-bits binary64 binary32 b B j e h
      ∙ rounded-bits binary32 false m 52 j 1074 (omega arith) (omega arith) k c 0 (omega arith) (omega arith)
      ∙ zero-add (min (k * 2 ^ 23 + closest (m * 2 ^ 0) (2 ^ c)) (255 * 2 ^ 23))
      ∙ ap (λ (y : ℕ). min (k * 2 ^ 23 + closest y (2 ^ c)) (255 * 2 ^ 23)) (mul-one m)

  -- at least 29 digits are rounded off, so that 24 are left, or the next power of two
  pub few : (c : ℕ) → 29 ≤ c → closest (2 ^ 52 + b % 2 ^ 52) (2 ^ c) ≤ 2 ^ 24
  few c h = let l : 2 ^ 29 ≤ 2 ^ c = pow_mono h in closest-le (2 ^ 24) (2 ^ c) (2 ^ 52 + b % 2 ^ 52) (pow_pos c) (omega arith)

  pub to-zero : b / 2 ^ 52 < 873 → 0 ≡ converted binary64 binary32 b
  to-zero h = sym (zero_arm (b / 2 ^ 52) refl h)

  pub to-subnormal : 873 ≤ b / 2 ^ 52 → b / 2 ^ 52 < 897 → closest (2 ^ 52 + b % 2 ^ 52) (2 ^ (926 - b / 2 ^ 52)) ≡ converted binary64 binary32 b
  to-subnormal l h =
      let c = 926 - b / 2 ^ 52 in
      sym (normal (b / 2 ^ 52) 0 c refl (omega arith) (omega arith) (omega arith) (omega arith) ∙ omega (arith, few c (omega arith)))

  to-infinity : b ≡ 2047 * 2 ^ 52 → converted binary64 binary32 b ≡ 255 * 2 ^ 23
  unfolding converted nearest nan_bits of_bits to_bits
  to-infinity e = ap (λ (y : ℕ). converted binary64 binary32 y) e

  -- of the infinity's pattern the sum comes to more than the infinity's
  pub to-normal : 897 ≤ b / 2 ^ 52 → b ≤ 2047 * 2 ^ 52
      → min ((b / 2 ^ 52 - 897) * 2 ^ 23 + closest (2 ^ 52 + b % 2 ^ 52) (2 ^ 29)) (255 * 2 ^ 23) ≡ converted binary64 binary32 b
  to-normal l h =
      elim (eq-or-lt_of_le h) [
        | inl e ↦ omega (arith, to-infinity e)
        | inr k ↦ sym (normal (b / 2 ^ 52) (b / 2 ^ 52 - 897) 29 refl (omega arith) (omega arith) refl (omega arith))
      ]

  pub to-nan : 2047 * 2 ^ 52 < b → 0x7fc00000 + b / 2 ^ 29 % 2 ^ 22 ≡ converted binary64 binary32 b
  to-nan h = omega (arith, nan-bits binary64 binary32 b B h)
