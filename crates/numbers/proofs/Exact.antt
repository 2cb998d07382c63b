-- Widening loses nothing: a finite binary32 and the binary64 that it is converted to are the same number, with the
-- same sign.
-- Assumes nothing.
use mathlib.Core.Path.{sym, ap, ◌∙◌, subst}
use mathlib.Core.Bool.{Bool}
use Prim.Native.Nat.{ℕ, zero, suc, ◌+◌, ◌*◌, ◌/◌, ◌%◌, ◌^◌, ◌≤◌, ◌<◌}
use native.Mathlib.Nat.{mul_assoc, lt_of_lt_of_le}
use native.Mathlib.Omega.{arith}
use lib.Dec.{T, leb, lit≤}
use lib.Pow.{pow-add, pow_pos, pow_mono, shl_lt}
use lib.Ieee.{Float, nan, inf, fin, Format, binary32, binary64, up, down, round, fits, of_fields, of_bits}
use lib.Ieee.Bits.{of_bits-to_bits}
use lib.Ieee.Exact.{HasValue, round_exact}
use lib.Ieee.Fits.{round-fits, nan-fits, inf-fits}
use Rattle.numbers.specs.Conversions.{nearest, converted, SameNumber}
use Rattle.numbers.proofs.Patterns.{nearest-is, number-bits, subnormal-value, normal-value}

-- m * 2 ^ j / 2 ^ 149 with an m of 24 digits
rounded : (s : Bool) (m j : ℕ) → m < 2 ^ 24 → j ≤ 253 → HasValue (round binary64 s (m * 2 ^ j) (2 ^ 149)) s (m * 2 ^ j) (2 ^ 149)
rounded s m j h k =
    round_exact binary64 s (m * 2 ^ j) (2 ^ 149) m (j + 925) (pow_pos 149) (omega arith)
    (lt_of_lt_of_le (shl_lt 24 (j + 925) h) (pow_mono {i = 24 + (j + 925)} {j = 2098} (omega arith)))
    (mul_assoc m (2 ^ j) (2 ^ 1074) ∙ ap (λ (y : ℕ). m * y) (sym (pow-add 2 j 1074) ∙ ap (λ (y : ℕ). 2 ^ y) (omega arith) ∙ pow-add 2 (j + 925) 149) ∙ sym (mul_assoc m (2 ^ (j + 925)) (2 ^ 149)))

by_value : (x : Float) (s : Bool) (m j : ℕ) → m < 2 ^ 24 → j ≤ 253 → HasValue x s (m * 2 ^ j) (2 ^ 149) → SameNumber x (nearest binary64 x)
by_value x s m j h k v = record {
  sign = s;
  size = m * 2 ^ j;
  over = 2 ^ 149;
  some = pow_pos 149;
  first = v;
  second = rw (nearest-is binary64 x s (m * 2 ^ j) (2 ^ 149) (pow_pos 149) v) (rounded s m j h k);
}

by-fields : (s : Bool) (x t : ℕ) → x < 255 → t < 2 ^ 23 → SameNumber (of_fields binary32 s x t) (nearest binary64 (of_fields binary32 s x t))
by-fields s zero t h k = by_value (of_fields binary32 s 0 t) s t 0 (omega arith) (lit≤ tt) (subnormal-value binary32 s t)
by-fields s (suc j) t h k = by_value (of_fields binary32 s (suc j) t) s (2 ^ 23 + t) j (omega arith) (omega arith) (normal-value binary32 s j t h)

pub nearest-fits : (f : Format) (x : Float) → T (fits f (nearest f x))
unfolding nearest
nearest-fits f nan = nan-fits f
nearest-fits f (inf s) = inf-fits f s
nearest-fits f (fin s m e) = round-fits f s (m * up e) (down e)

pub widened_same : (b : ℕ) → b % 2 ^ 31 < 255 * 2 ^ 23 → SameNumber (of_bits binary32 b) (of_bits binary64 (converted binary32 binary64 b))
unfolding of_bits
widened_same b h =
    let x = of_bits binary32 b in
    subst (λ (y : Float). SameNumber x y) (sym (ap (of_bits binary64) (number-bits binary32 binary64 b (omega arith)) ∙ of_bits-to_bits binary64 (nearest binary64 x) (nearest-fits binary64 x)))
    (by-fields (leb (2 ^ 31) b) (b % 2 ^ 31 / 2 ^ 23) (b % 2 ^ 23) (omega arith) (omega arith))
