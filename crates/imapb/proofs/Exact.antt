-- Where nothing is rounded: both scalings at every length, and up to 6 bytes the whole of a reading.
-- Assumes nothing.
use mathlib.Core.Path.{◌≡◌, refl, ap, subst, ◌∙◌}
use mathlib.Core.Bool.{Bool, true, false}
use Prim.Native.Nat.{ℕ, suc, ◌+◌, ◌-◌, ◌*◌, ◌^◌, ◌≤◌, ◌<◌}
use native.Mathlib.Nat.{le_trans, le_of_eq, pow-succ', le_of_lt, lt_of_not-le, not-le_of_lt, lt_of_le_of_lt, lt_of_lt_of_le, mul-le-mul_left, mul-le-mul_right, eq_of_mul-eq-mul_right}
use native.Mathlib.Decide.{dec_le}
use native.Mathlib.Omega.{arith}
use lib.Dec.{T}
use lib.IntN.{pos}
use lib.Pow.{pow-add, pow_pos, pow_mono, pow-lt}
use lib.Ieee.{Float, Format, binary64, prec, emax, low, up, down, size, add, mul, div, of_int, fits}
use lib.Ieee.Digits.{size-lt}
use lib.Ieee.Fits.{down_pos, two, two-le_pos}
use lib.Ieee.Exact.{HasValue}
use lib.Ieee.Nearest.{closest}
use lib.Ieee.Scale.{overflow}
use lib.Ieee.Back.{round_whole}
use Rattle.imapb.specs.Mapping.{one, power, scale_of, top_of, value, value_of, in_range}
use Rattle.imapb.proofs.Rounded.{cut, apart, steps-le, kept-few, rounded-top}
use Rattle.imapb.proofs.Units.{Counts, by_value, exact, int_is, div_is, round-counts}
use Rattle.imapb.proofs.Above.{Over, Lies}
use Rattle.imapb.proofs.Mapped.{wide, rounded_in, sum-counts, product, value-lies}
use Rattle.imapb.proofs.Range.{value_in}
use Rattle.imapb.proofs.UnitRange.{step, ones, split-of, range-of, place_of}

-- two fractions for one number are equal, and one number has every fraction that is equal to one of its own
cross : (x : Float) (s : Bool) (a c b d : ℕ) → HasValue x s a c → HasValue x s b d → a * d ≡ b * c
cross x s a c b d h = by_value (λ (z : Float). HasValue z s b d → a * d ≡ b * c) s a c
    (λ m e k g. eq_of_mul-eq-mul_right (down e) (down_pos e) (a * d) (b * c) (omega (arith, ap (λ (z : ℕ). z * d) k, ap (λ (z : ℕ). z * c) g.1))) x h

pub again : (x : Float) (s : Bool) (a c b d : ℕ) → 0 < c → HasValue x s a c → a * d ≡ b * c → HasValue x s b d
again x s a c b d C h q = by_value (λ (z : Float). HasValue z s b d) s a c
    (λ m e k. (refl, eq_of_mul-eq-mul_right c C (m * up e * d) (b * down e) (omega (arith, ap (λ (z : ℕ). z * d) k, ap (λ (z : ℕ). z * down e) q)))) x h

-- k times, and one k-th of, a number of any fraction
module _ (f : Format) (x z : Float) (g k a c : ℕ) where
  times : Counts f x false g → Counts f z false (g * k) → HasValue x false a c → HasValue z false (a * k) c
  times X Z v = again z false (g * k) (2 ^ low f) (a * k) c (pow_pos (low f)) Z (omega (arith, ap (λ (y : ℕ). y * k) (cross x false a c g (2 ^ low f) v X)))

  part : Counts f x false (g * k) → Counts f z false g → HasValue x false a c → HasValue z false a (c * k)
  part X Z v = again z false g (2 ^ low f) a (c * k) (pow_pos (low f)) Z (omega (arith, cross x false a c (g * k) (2 ^ low f) v X))

-- ---- the nearest value of a whole number has few digits, and it is a whole number
record Short (f : Format) (x : Float) : Type 0 where
  pub digits : ℕ
  pub zeros : ℕ
  pub is : Counts f x false (digits * 2 ^ zeros)
  pub few : digits ≤ 2 ^ prec f
  pub many : low f ≤ zeros
  pub small : digits * 2 ^ zeros < overflow f

short : (f : Format) (y : ℕ) → y ≤ 2 ^ 64 → Short f (of_int f (pos y))
short f y h =
    let l = low f in
    let p = prec f in
    let n = y * 2 ^ l in
    let P = two-le_pos p (two f) in
    let far = pow-lt {i = 64 + l} {j = l + suc (emax f)} (omega (arith, wide f)) in
    elim (dec_le y (2 ^ p)) [
      | yes k ↦
          let s = lt_of_le_of_lt (steps-le y 64 l h) far in
          record { digits = y; zeros = l; is = rw int_is (exact f false y l k s); few = k; many = omega arith; small = s }
      | no k ↦
          let reach : 2 ^ (p + l) ≤ n = rw pow-add (mul-le-mul_right (2 ^ l) (le_of_lt (lt_of_not-le k))) in
          let s = lt_of_le_of_lt (rounded-top p n P (64 + l) (steps-le y 64 l h)) far in
          record {
            digits = closest n (2 ^ cut p n);
            zeros = cut p n;
            is = rw int_is (round-counts f n s);
            few = kept-few p n;
            many = elim (dec_le (p + l) (size n)) [ yes g ↦ omega arith | no g ↦ absurd (not-le_of_lt (lt_of_lt_of_le (size-lt n) (pow_mono (le_of_lt (lt_of_not-le g)))) reach) ];
            small = s;
          }
    ]

quotient_is : (f : Format) (t y a c : ℕ) → t ≤ low f → y ≤ 2 ^ 64 → HasValue (of_int f (pos y)) false a c → HasValue (div f (of_int f (pos y)) (power t)) false a (c * 2 ^ t)
quotient_is f t y a c d h v =
    let x = of_int f (pos y) in
    let s = short f y h in
    let g = s.digits * 2 ^ (s.zeros - t) in
    let e = apart s.digits s.zeros t (omega (arith, s.many)) in
    let X : Counts f x false (g * 2 ^ t) = rw e s.is in
    part f x (div f x (power t)) g (2 ^ t) a c X (rw (div_is f t x g X) (exact f false s.digits (s.zeros - t) s.few (lt_of_le_of_lt (mul-le-mul_left s.digits (pow_mono (omega arith))) s.small))) v

module _ (L : ℕ) (least : 1 ≤ L) (most : L ≤ 8) where
  -- (v + 1) * 2 ^ (8L - 2), where v + 1 is the rounded sum
  pub product-exact : (v : Float) → T (fits binary64 v) → T (in_range v) → (a c : ℕ)
      → HasValue (add binary64 v one) false a c → HasValue (mul binary64 (add binary64 v one) (scale_of L)) false (a * 2 ^ (8 * L - 2)) c
  product-exact v held ranged a c =
      let p = place_of L least most v held ranged in
      let R = range-of L least most in
      times binary64 (add binary64 v one) (mul binary64 (add binary64 v one) (scale_of L)) (rounded_in binary64 p.count) (2 ^ (8 * L - 2)) a c (sum-counts R p) (product R p)

  -- y / 2 ^ (8L - 2), where y is the nearest binary64
  pub quotient-exact : (y : ℕ) → y < 2 ^ 64 → (a c : ℕ)
      → HasValue (of_int binary64 (pos y)) false a c → HasValue (div binary64 (of_int binary64 (pos y)) (scale_of L)) false a (c * 2 ^ (8 * L - 2))
  quotient-exact y h a c = quotient_is binary64 (8 * L - 2) y a c (omega arith) (le_of_lt h)

-- n units above -w, and at most w above 0
over-within : (s : Bool) (a w n : ℕ) → Over s a w n → n ≤ 2 * w → a ≤ w
over-within false a w n o m = omega arith
over-within true a w n o m = omega arith

-- ---- up to 6 bytes
module _ (L : ℕ) (least : 1 ≤ L) (few : L ≤ 6) (y : ℕ) where
  pub int-exact : y < 2 ^ (8 * L) → HasValue (of_int binary64 (pos y)) false y 1
  unfolding of_int
  int-exact h = round_whole binary64 false y (le_trans (le_of_lt h) (pow_mono {j = 53} (omega arith)))

  -- y / 2 ^ (8L - 2) - 1 is y steps above -1
  pub value-exact : y ≤ top_of L → Lies binary64 (2 ^ 1074) (y * 2 ^ step L) (value_of L y)
  unfolding value
  value-exact h =
      let most : L ≤ 8 = omega arith in
      subst (λ (w : ℕ). Lies binary64 w (y * 2 ^ step L) (value_of L y)) (ones binary64 (8 * L - 2) (step L) (split-of L least most))
      (value-lies (range-of L least most) (omega arith) y (le_trans h (pow_mono (omega arith))))

  -- so a code up to that of 1 reads as a number from -1 to 1
  pub value-ranged : y ≤ top_of L → in_range (value_of L y) ≡ true
  value-ranged h =
      let l = value-exact h in
      let e : 8 * L - 1 + step L ≡ 1075 = omega arith in
      let m : y * 2 ^ step L ≤ 2 * 2 ^ 1074 = le_trans (steps-le y (8 * L - 1) (step L) h) (le_of_eq (ap (λ (x : ℕ). 2 ^ x) e ∙ pow-succ' 2 1074)) in
      value_in (value_of L y) l.sign l.size (2 ^ 1074) (pow_pos 1074) l.counts (over-within l.sign l.size (2 ^ 1074) (y * 2 ^ step L) l.over m)
