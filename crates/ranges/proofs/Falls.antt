-- The floor of a number that is not above 0, from its whole part.
-- Assumes nothing.
use Rattle.std.proofs.Common.{◌≡◌, ℕ, suc, ◌+◌, ◌-◌, ◌*◌, ◌/◌, ◌%◌, ◌^◌, ◌<◌, ◌≤◌, true, false, T, ltb, ℤ, pos, negsuc, sym, refl, ap, ◌∙◌, le_trans, lt_of_lt_of_le, lt_of_le_of_lt, mod-lt, mul-lt-mul_of_pos_right, div-add-mod', mul-one, div-le_self, div-mul-le_self, div-one, arith, lit<, lt→ltb, pow_pos, pow_mono, ltb-false, ltb-true}
use lib.Arith.{digits_div}
use lib.Ieee.{Float, fin, binary64, up, down, lt, neg, of_int, to_unsigned}
use lib.Ieee.Back.{round_whole}
use lib.Ieee.Exact.{HasValue, round_exact}
use lib.Ieee.Fits.{down_pos}
use Rattle.numbers.proofs.WholePart.{whole-of}
use Rattle.imapb.proofs.Rounded.{joined}
use Rattle.imapb.proofs.Units.{by_value}
use Rattle.ranges.specs.Floor.{ceiling, floor_of, Falls}
use Rattle.ranges.proofs.Order.{lt-is}
use Rattle.ranges.proofs.Field.{few-digits}

-- ---- the least whole number that a / c does not exceed: a / c without its fraction, or one more
module _ (a c : ℕ) (C : 0 < c) where
  ceiling-more : a / c * c < a → ceiling a c ≡ a / c + 1
  ceiling-more h =
      let l = mod-lt a C in
      let s = div-add-mod' a c in
      ap (λ (z : ℕ). z / c) (omega arith) ∙ digits_div (a / c + 1) {m = c} {r = a % c - 1} (omega arith)

  ceiling-whole : a ≤ a / c * c → ceiling a c ≡ a / c
  ceiling-whole h = ap (λ (z : ℕ). z / c) (omega (arith, div-mul-le_self a c)) ∙ digits_div (a / c) {m = c} {r = c - 1} (omega arith)

-- ---- a number without its fraction is a value of the format
whole-held : (m : ℕ) (e : ℤ) → m < 2 ^ 53 → m * up e < 2 ^ 64 * down e → HasValue (of_int binary64 (pos (m * up e / down e))) false (m * up e / down e) 1
unfolding of_int
whole-held m (pos i) h l =
    let n = m * 2 ^ i in
    rw (div-one n)
    (round_exact binary64 false n 1 m (i + 1074) (lit< tt) h (lt_of_lt_of_le (rw joined at (mul-lt-mul_of_pos_right l (pow_pos 1074))) (pow_mono {i = 1138} {j = 2098} (omega arith))) (joined m i 1074 ∙ sym (mul-one _)))
whole-held m (negsuc i) h l = round_whole binary64 false (m * 1 / 2 ^ suc i) (le_trans (div-le_self (m * 1) (2 ^ suc i)) (omega arith))

-- ---- without its fraction a number below 0 lies above where there is a fraction
abbrev pub whole_of : Float → ℕ
whole_of x = to_unsigned 64 (neg x)

-- the floor is one further down
abbrev pub More : Float → Type 0
More x = (whole_of x + 1 < 2 ^ 64) × (neg (of_int binary64 (pos (whole_of x + 1))) ≡ floor_of x)

module _ (m : ℕ) (e : ℤ) (h : m < 2 ^ 53) (l : m * up e < 2 ^ 64 * down e) where
  whole_is : whole_of (fin true m e) ≡ m * up e / down e
  unfolding neg
  whole_is = whole-of (fin false m e) (m * up e) (down e) (down_pos e) (refl, refl) l

  above-is : lt (fin true m e) (neg (of_int binary64 (pos (m * up e / down e)))) ≡ ltb (m * up e / down e * down e) (m * up e)
  unfolding neg
  above-is =
      let w = m * up e / down e in
      let y = of_int binary64 (pos w) in
      lt-is (fin true m e) (neg y) true true (m * up e) (w * down e) (down e) (down_pos e) (refl, refl)
      (by_value (λ (z : Float). HasValue (neg z) true (w * down e) (down e)) false w 1 (λ n d k. (refl, omega (arith, ap (λ (z : ℕ). z * down e) k))) y (whole-held m e h l))

-- a number with a fraction is small
few-whole : (m : ℕ) (e : ℤ) → m < 2 ^ 53 → m * up e / down e * down e < m * up e → m * up e / down e < 2 ^ 53
few-whole m (pos i) h k = absurd (omega (arith, div-one (m * 2 ^ i)))
few-whole m (negsuc i) h k = lt_of_le_of_lt (div-le_self (m * 1) (2 ^ suc i)) (omega arith)

module _ {x : Float} (f : Falls x) where
  abbrev m : ℕ
  m = f.size

  abbrev e : ℤ
  e = f.exponent

  digits : m < 2 ^ 53
  digits = few-digits binary64 true m e (rw f.is at f.held)

  -- its whole part is a u64
  pub reaches : T (lt (fin true 1 (pos 0)) (neg x)) × T (lt (neg x) (fin false 1 (pos 64)))
  unfolding neg lt
  reaches = rw f.is (lt→ltb 0 (1 * down e + m * up e * 1) (omega (arith, down_pos e)), lt→ltb (m * up e * 1) (2 ^ 64 * down e) (omega (arith, f.few)))

  -- the floor is its whole part, or one further down
  pub falls-more : lt x (neg (of_int binary64 (pos (whole_of x)))) ≡ true → More x
  unfolding floor_of
  falls-more =
      rw (f.is, whole_is m e digits f.few, above-is m e digits f.few)
      (λ t. let h = ltb-true (m * up e / down e * down e) (m * up e) t in
      (omega (arith, few-whole m e digits h), ap (λ (z : ℕ). neg (of_int binary64 (pos z))) (sym (ceiling-more (m * up e) (down e) (down_pos e) h))))

  pub falls-whole : lt x (neg (of_int binary64 (pos (whole_of x)))) ≡ false → neg (of_int binary64 (pos (whole_of x))) ≡ floor_of x
  unfolding floor_of
  falls-whole =
      rw (f.is, whole_is m e digits f.few, above-is m e digits f.few)
      (λ t. ap (λ (z : ℕ). neg (of_int binary64 (pos z))) (sym (ceiling-whole (m * up e) (down e) (down_pos e) (ltb-false (m * up e / down e * down e) (m * up e) t))))
