-- What `converted` makes of a binary32 pattern b without its sign, arm by arm of `widen_size`.
-- Assumes nothing.
use mathlib.Core.Path.{◌≡◌, refl, sym, ap, ◌∙◌}
use mathlib.Core.Bool.{false}
use Prim.Native.Nat.{ℕ, zero, suc, ◌+◌, ◌*◌, ◌/◌, ◌%◌, ◌^◌, ◌≤◌, ◌<◌, min}
use native.Mathlib.Omega.{arith}
use lib.Ieee.{binary32, binary64, round, to_bits, nan_bits, of_bits}
use Rattle.numbers.specs.Conversions.{nearest, converted}
use Rattle.numbers.proofs.Closest.{closest-whole}
use Rattle.numbers.proofs.Rounding.{rounded-bits}
use Rattle.numbers.proofs.Patterns.{nan-bits, normal-bits}

pub from_zero : 0 ≡ converted binary32 binary64 0
unfolding converted nearest nan_bits of_bits to_bits round
from_zero = refl

pub from-infinity : 2047 * 2 ^ 52 ≡ converted binary32 binary64 (255 * 2 ^ 23)
unfolding converted nearest nan_bits of_bits to_bits
from-infinity = refl

module _ (b : ℕ) (B : b < 2 ^ 31) where
  -- no digit is lost: all are moved up by 29
  normal : (x : ℕ) → b / 2 ^ 23 ≡ x → 1 ≤ x → x < 255 → converted binary32 binary64 b ≡ b * 2 ^ 29 + 896 * 2 ^ 52
  normal zero e l h = absurd (omega arith)
  normal (suc j) e l h =
      let m = 2 ^ 23 + b % 2 ^ 23 in
      normal-bits binary32 binary64 b B j e h
      ∙ rounded-bits binary64 false m 23 j 149 (omega arith) (omega arith) (j + 896) 0 29 (omega arith) (omega arith)
      ∙ ap (λ (y : ℕ). 0 + min ((j + 896) * 2 ^ 52 + y) (2047 * 2 ^ 52)) (closest-whole (m * 2 ^ 29))
      ∙ omega arith

  pub from-normal : 2 ^ 23 ≤ b → b < 255 * 2 ^ 23 → b * 2 ^ 29 + 896 * 2 ^ 52 ≡ converted binary32 binary64 b
  from-normal l h = sym (normal (b / 2 ^ 23) refl (omega arith) (omega arith))

  pub from-nan : 255 * 2 ^ 23 < b → 0x7ff8000000000000 + b % 2 ^ 22 * 2 ^ 29 ≡ converted binary32 binary64 b
  from-nan h = omega (arith, nan-bits binary32 binary64 b B h)
