-- The offset of a range: with 0 inside, scale·min lies above -2^64, so its floor is exact and the offset from 0 to 1.
-- Assumes nothing.
use Rattle.std.proofs.Common.{◌≡◌, ℕ, ◌+◌, ◌*◌, ◌/◌, ◌^◌, ◌<◌, ◌≤◌, Bool, true, false, ◌&&◌, T, refl, ap, ◌∙◌, lt_of_le_of_lt, lt_of_mul-lt-mul_right, mul-lt-mul_of_pos_right, lt_of_not-le, arith, lit<, lit≤, pow_pos, pow-add, ltb-true}
use mathlib.Core.Bool.{false≢true}
use native.Mathlib.Decide.{dec_le}
use lib.Ieee.{Float, nan, inf, fin, Format, binary64, low, up, down, neg, sub, mul, lt, fits}
use lib.Ieee.Fits.{down_pos, mul-fits}
use lib.Ieee.Scale.{finite}
use Rattle.answers.specs.Table.{pick}
use Rattle.imapb.proofs.Units.{Counts, by_value, neg-counts}
use Rattle.imapb.proofs.Above.{add-over}
use Rattle.imapb.proofs.UnitRange.{counted}
use Rattle.ranges.specs.Floor.{floor_of, Falls}
use Rattle.ranges.specs.Range.{zero_float, power_of, span_of, good_range, scale_in, offset_in}
use Rattle.ranges.proofs.Spanned.{Spanned}
use Rattle.ranges.proofs.Power.{spanned, good-fits, good-finite}
use Rattle.ranges.proofs.Scaled.{Upto, below_power, round-from, scale-upto}
use Rattle.ranges.proofs.ExactFloor.{less-floor}

-- ---- a number below 0 and one above 0, in units
below-zero : (f : Format) (x : Float) → T (fits f x) → T (finite x) → lt x zero_float ≡ true → (a : ℕ) × Counts f x true a
unfolding lt
below-zero f nan h k p = absurd k
below-zero f (inf s) h k p = absurd k
below-zero f (fin true m e) h k p = (m * up e * 2 ^ low f / down e, counted f true m e h)
below-zero f (fin false m e) h k p = absurd (omega (arith, ltb-true (m * up e * 1) (0 * 1 * down e) p))

above_zero : (f : Format) (x : Float) → T (fits f x) → T (finite x) → lt zero_float x ≡ true → (a : ℕ) × Counts f x false a
unfolding lt
above_zero f nan h k p = absurd k
above_zero f (inf s) h k p = absurd k
above_zero f (fin true m e) h k p = absurd (false≢true p)
above_zero f (fin false m e) h k p = (m * up e * 2 ^ low f / down e, counted f false m e h)

-- ---- a number not above 0, of so few units
less-than : (n d a l : ℕ) → 0 < d → n * l ≡ a * d → a < 2 ^ 64 * l → n < 2 ^ 64 * d
less-than n d a l D e h = lt_of_mul-lt-mul_right l (omega (arith, mul-lt-mul_of_pos_right h D))

falls : (x : Float) (a : ℕ) → Counts binary64 x true a → a < 2 ^ 64 * 2 ^ 1074 → T (fits binary64 x) → Falls x
falls x a c h =
    by_value (λ (z : Float). T (fits binary64 z) → Falls z) true a (2 ^ 1074)
    (λ m e k t. record { size = m; exponent = e; is = refl; held = t; few = less-than (m * up e) (down e) a (2 ^ 1074) (down_pos e) k h }) x c

module _ (min max : Float) (good : T (good_range min max)) where
  abbrev sp : Spanned min max
  sp = spanned good

  -- below 1.5·2^b in size, since the span would reach what it reached
  least-small : (a : ℕ) → Counts binary64 min true a → lt zero_float max ≡ true → a ≤ 3 * 2 ^ (1012 + power_of (span_of min max))
  unfolding span_of sub
  least-small a c q =
      let k = power_of (span_of min max) in
      let b = above_zero binary64 max (good-fits min max good).1 (good-finite min max good).1 q in
      let S = sp.units in
      let o = sp.over in
      let u = sp.upto in
      let m = sp.most in
      elim (dec_le a (3 * 2 ^ (1012 + k))) [
        | yes h ↦ h
        | no h ↦
            let g : 3 * 2 ^ (1012 + k) ≤ S =
            round-from binary64 (span_of min max) (b.0 + a) S 3 (1012 + k)
            (add-over binary64 max (neg min) a (b.0 + a) (record { sign = false; size = b.0; counts = b.1; over = refl }) (neg-counts binary64 min true a c))
            sp.counts (omega arith) (lit< tt) (lit≤ tt) (below_power 3 2 (1012 + k) 2098 (lit< tt) (omega arith)) (omega (arith, lt_of_not-le h)) in
            let t : 2 ^ (1013 + k) ≡ 2 * 2 ^ (1012 + k) = ap (λ (y : ℕ). 2 ^ y) (omega arith) ∙ pow-add 2 1 (1012 + k) in
            absurd (omega (arith, pow_pos (1012 + k)))
      ]

  module _ (L : ℕ) (least : 1 ≤ L) (most : L ≤ 8) where
    -- scale·min is not above 0, and above -2^64
    pub scaled-falls : lt min zero_float ≡ true → lt zero_float max ≡ true → Falls (mul binary64 (scale_in min max L) min)
    unfolding scale_in
    scaled-falls p q =
        let k = power_of (span_of min max) in
        let a = below-zero binary64 min (good-fits min max good).0 (good-finite min max good).0 p in
        let g =
        scale-upto binary64 (8 * L + 60) k min true a.0 3 (1012 + k) (8 * L + 1072) a.1 (lit≤ tt) (below_power 3 2 (8 * L + 1072) 2098 (lit< tt) (omega arith)) (omega arith)
        (least-small a.0 a.1 q) in
        falls (mul binary64 (scale_in min max L) min) g.0 g.1 (lt_of_le_of_lt g.2 (below_power 3 2 (8 * L + 1072) 1138 (lit< tt) (omega arith)))
        (mul-fits binary64 (scale_in min max L) min)

    -- the offset lies from 0 to 1
    pub offset-counts : (o : ℕ) × Counts binary64 (offset_in min max L) false o × (o ≤ 2 ^ 1074)
    unfolding offset_in
    offset-counts = go (lt min zero_float) refl (lt zero_float max) refl
      where
        x : Float
        x = mul binary64 (scale_in min max L) min

        nothing : Upto binary64 zero_float false (2 ^ 1074)
        nothing = (0, (refl, refl), lit≤ tt)

        go : (a : Bool) → lt min zero_float ≡ a → (b : Bool) → lt zero_float max ≡ b → Upto binary64 (pick (a && b) (sub binary64 x (floor_of x)) zero_float) false (2 ^ 1074)
        go true p true q = less-floor (scaled-falls p q)
        go true p false q = nothing
        go false p b q = nothing
