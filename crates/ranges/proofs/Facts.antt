-- What holds over every good range, from the laws of its parts.
-- Assumes nothing.
use Rattle.std.proofs.Common.{◌≡◌, ℕ, ◌-◌, ◌*◌, ◌/◌, ◌^◌, ◌<◌, ◌≤◌, false, T, refl, ap, ◌∙◌, div-mul-le_self, arith, lit<, pow_pos, pow-add}
use lib.Ieee.{Float, le}
use lib.Ieee.Exact.{HasValue}
use lib.Ieee.Order.{le_of_values}
use Rattle.imapb.specs.Mapping.{one}
use Rattle.ranges.specs.Range.{zero_float, good_range, scale_in, offset_in, top_in, value_in}
use Rattle.ranges.specs.Facts.{Shared}
use Rattle.ranges.proofs.Power.{spanned}
use Rattle.ranges.proofs.Offset.{offset-counts}
use Rattle.ranges.proofs.Top.{top-le}
use Rattle.ranges.proofs.Step.{step_is}
use Rattle.ranges.proofs.Number.{value-finite, number_is}

-- o / u from 0 to 1
unit : (x : Float) (o u : ℕ) → 0 < u → HasValue x false o u → o ≤ u → T (le zero_float x) × T (le x one)
unit x o u U v h = (le_of_values zero_float x 0 1 o u (lit< tt) U (refl, refl) v (omega arith), le_of_values x one o u 1 1 U (lit< tt) v (refl, refl) (omega arith))

flags-above : (L t y : ℕ) → 1 ≤ L → t ≤ 5 * 2 ^ (8 * L - 3) → y / 2 ^ (8 * L - 2) ≡ 0b11 → t < y
flags-above L t y h k e =
    let p : 2 ^ (8 * L - 2) ≡ 2 * 2 ^ (8 * L - 3) = ap (λ (n : ℕ). 2 ^ n) (omega arith) ∙ pow-add 2 1 (8 * L - 3) in
    omega (arith, pow_pos (8 * L - 3), rw (e, p) at (div-mul-le_self y (2 ^ (8 * L - 2))))

pub shared : (min max : Float) → T (good_range min max) → (L : ℕ) → 1 ≤ L → L ≤ 8 → Shared min max L
unfolding scale_in value_in
shared min max good L least most =
    let o = offset-counts min max good L least most in
    let u = unit (offset_in min max L) o.0 (2 ^ 1074) (pow_pos 1074) o.1 o.2 in
    let t = top-le min max good L least most in
    record {
      scale = refl;
      step = step_is (spanned {min = min} {max = max} good) {L = L} least most;
      offset-least = u.0;
      offset-most = u.1;
      top-most = t;
      specials-above = λ y. flags-above L (top_in min max L) y least t;
      number = number_is min max good L least most;
      value-finite = λ y h. rw (value-finite min max good L least most y h) tt;
    }
