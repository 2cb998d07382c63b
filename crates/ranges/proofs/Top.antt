-- The top code of a range: the sum whose whole part it is stays below 2^64, and the code up to 5·2^(8L-3), below every
-- special code.
-- Assumes nothing.
use Rattle.std.proofs.Common.{◌≡◌, ℕ, ◌+◌, ◌-◌, ◌*◌, ◌^◌, ◌<◌, ◌≤◌, true, false, T, pos, sym, refl, ap, ◌∙◌, le_trans, le_of_eq, lt_of_le_of_lt, one-mul, div-mul-le_self, le_of_mul-le-mul_right, arith, lit<, lit≤, lt→ltb, pow_pos, pow_mono, pow-add}
use lib.Ieee.{Float, fin, binary64, up, down, add, mul, lt}
use lib.Ieee.Exact.{HasValue}
use lib.Ieee.Fits.{down_pos}
use Rattle.numbers.proofs.WholePart.{under, whole-of}
use Rattle.imapb.proofs.Rounded.{joined}
use Rattle.imapb.proofs.Units.{by_value}
use Rattle.ranges.specs.Range.{power_of, span_of, good_range, scale_in, offset_in, top_in}
use Rattle.ranges.proofs.Power.{spanned}
use Rattle.ranges.proofs.Scaled.{Upto, below_power, add-upto, scale-upto}
use Rattle.ranges.proofs.Offset.{offset-counts}

-- a number that is not negative lies above -1
above_minus_one : (x : Float) (a c : ℕ) → HasValue x false a c → T (lt (fin true 1 (pos 0)) x)
unfolding lt
above_minus_one x a c =
    by_value (λ (z : Float). T (lt (fin true 1 (pos 0)) z)) false a c (λ m e k. lt→ltb 0 (1 * 1 * down e + m * up e * 1) (omega (arith, down_pos e))) x

-- v is four times w, and u at most w
five : (a b v u w : ℕ) → a ≤ 1 * v → b ≤ u → v ≡ 4 * w → u ≤ w → a + b ≤ 5 * w
five a b v u w h k e l = omega arith

-- scale·span, and the sum whose whole part is the top code
abbrev product : Float → Float → ℕ → Float
product min max L = mul binary64 (scale_in min max L) (span_of min max)

abbrev pub sum_in : Float → Float → ℕ → Float
sum_in min max L = add binary64 (product min max L) (offset_in min max L)

module _ (min max : Float) (good : T (good_range min max)) (L : ℕ) (least : 1 ≤ L) (most : L ≤ 8) where
  product-upto : Upto binary64 (product min max L) false (1 * 2 ^ (8 * L + 1073))
  unfolding scale_in
  product-upto =
      let k = power_of (span_of min max) in
      let sp = spanned {min = min} {max = max} good in
      scale-upto binary64 (8 * L + 60) k (span_of min max) false sp.units 1 (1013 + k) (8 * L + 1073) sp.counts (lit≤ tt) (below_power 1 1 (8 * L + 1073) 2098 (lit< tt) (omega arith)) (omega arith)
      (le_trans sp.upto (le_of_eq (sym (one-mul (2 ^ (1013 + k))))))

  sum-upto : Upto binary64 (sum_in min max L) false (5 * 2 ^ (8 * L + 1071))
  sum-upto =
      let p = product-upto in
      let o = offset-counts min max good L least most in
      add-upto binary64 (product min max L) (offset_in min max L) o.0 (p.0 + o.0) 5 (8 * L + 1071) (record { sign = false; size = p.0; counts = p.1; over = refl }) o.1
      (lit≤ tt) (below_power 5 3 (8 * L + 1071) 2098 (lit< tt) (omega arith))
      (five p.0 o.0 (2 ^ (8 * L + 1073)) (2 ^ 1074) (2 ^ (8 * L + 1071)) p.2 o.2 (ap (λ (y : ℕ). 2 ^ y) (omega arith) ∙ pow-add 2 2 (8 * L + 1071)) (pow_mono {i = 1074} {j = 8 * L + 1071} (omega arith)))

  sum-few : sum-upto.0 < 2 ^ 64 * 2 ^ 1074
  sum-few = lt_of_le_of_lt sum-upto.2 (below_power 5 3 (8 * L + 1071) 1138 (lit< tt) (omega arith))

  -- so its whole part is a code
  pub sum-small : T (lt (fin true 1 (pos 0)) (sum_in min max L)) × T (lt (sum_in min max L) (fin false 1 (pos 64)))
  sum-small =
      let u = sum-upto in
      let x = sum_in min max L in
      (above_minus_one x u.0 (2 ^ 1074) u.1, rw (under x u.0 (2 ^ 1074) u.1 sum-few) tt)

  -- every special code lies above it
  pub top-le : top_in min max L ≤ 5 * 2 ^ (8 * L - 3)
  unfolding top_in
  top-le =
      let u = sum-upto in
      let e : 5 * 2 ^ (8 * L + 1071) ≡ 5 * 2 ^ (8 * L - 3) * 2 ^ 1074 = sym (joined 5 (8 * L - 3) 1074 ∙ ap (λ (y : ℕ). 5 * 2 ^ y) (omega arith)) in
      rw (whole-of (sum_in min max L) u.0 (2 ^ 1074) (pow_pos 1074) u.1 sum-few)
      (le_of_mul-le-mul_right (le_trans (div-mul-le_self u.0 (2 ^ 1074)) (le_trans u.2 (le_of_eq e))) (pow_pos 1074))
