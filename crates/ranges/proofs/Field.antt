-- The exponent's field of a number, from its units, and the number of a field.
-- Assumes nothing.
use Rattle.std.proofs.Common.{◌≡◌, ℕ, zero, suc, ◌+◌, ◌-◌, ◌*◌, ◌/◌, ◌%◌, ◌^◌, ◌<◌, ◌≤◌, Bool, false, ◌&&◌, T, eqb, ltb, leb, ℤ, pos, negsuc, sym, ap, ◌∙◌, ap₂, inl, inr, le_of_eq, lt_of_lt_of_le, lt_of_le_of_lt, le_of_lt, lt_of_mul-lt-mul_right, eq-or-lt_of_le, mul-le-mul_left, lt_of_not-le, zero-add, mul-one, not-le_of_lt, le_of_mul-le-mul_right, mul-div_cancel, arith, ltb→lt, pow_pos, pow_mono, pow-add, shl_lt, ne_eqb, le-leb}
use native.Mathlib.Nat.{eq_of_mul-eq-mul_right}
use native.Mathlib.Decide.{dec_le}
use borrow.Author.Tests.{lt-leb}
use lib.Pow.{pow-lt, shl-shr}
use lib.Ieee.{Float, nan, inf, fin, Format, binary64, prec, emax, low, hid, up, down, minus, size, fits, of_fields, of_bits, to_bits}
use lib.Ieee.Digits.{size-lt, size-le}
use lib.Ieee.Fits.{and_l, and_r, down_pos}
use Rattle.numbers.proofs.Patterns.{unsigned}
use Rattle.imapb.proofs.Rounded.{cut, joined, apart}
use Rattle.imapb.proofs.Units.{Counts, by_value}

-- ---- a value of the format has few digits
pub few-digits : (f : Format) (s : Bool) (m : ℕ) (e : ℤ) → T (fits f (fin s m e)) → m < 2 ^ prec f
unfolding fits
few-digits f s zero e t = pow_pos (prec f)
few-digits f s (suc m) e t =
    let a : Bool = eqb (suc m % 2) 1 in
    let b : Bool = ltb (suc m) (2 ^ prec f) in
    let c : Bool = leb (down e) (2 ^ low f) in
    let d : Bool = ltb (suc m * up e) (2 ^ suc (emax f) * down e) in
    ltb→lt (suc m) (2 ^ prec f) (and_r a b (and_l (a && b) c (and_l (a && b && c) d t)))

-- its units are few digits, with zeros behind them
pub record Few (f : Format) (S : ℕ) : Type 0 where
  pub digits : ℕ
  pub zeros : ℕ
  pub is : digits * 2 ^ zeros ≡ S
  pub few : digits < 2 ^ prec f

of-digits : (f : Format) (m : ℕ) (e : ℤ) (S : ℕ) → m < 2 ^ prec f → m * up e * 2 ^ low f ≡ S * down e → Few f S
of-digits f m (pos i) S h k = record { digits = m; zeros = i + low f; is = sym (joined m i (low f)) ∙ k ∙ mul-one S; few = h }
of-digits f m (negsuc i) S h k =
    elim (dec_le (suc i) (low f)) [
      | yes l ↦ record { digits = m; zeros = low f - suc i; is = eq_of_mul-eq-mul_right (2 ^ suc i) (pow_pos (suc i)) (m * 2 ^ (low f - suc i)) S (apart m (low f) (suc i) l ∙ ap (λ (z : ℕ). z * 2 ^ low f) (sym (mul-one m)) ∙ k); few = h }
      | no l ↦ record { digits = S; zeros = 0; is = mul-one S; few = lt_of_le_of_lt (le_of_mul-le-mul_right (omega (arith, mul-le-mul_left m (pow_mono (le_of_lt (lt_of_not-le l))))) (pow_pos (suc i))) h }
    ]

pub few-units : (f : Format) (x : Float) (s : Bool) (S : ℕ) → T (fits f x) → Counts f x s S → Few f S
few-units f nan s S t c = absurd c
few-units f (inf u) s S t c = absurd c
few-units f (fin u m e) s S t c = of-digits f m e S (few-digits f u m e t) c.1

-- ---- the bits of a number of S units
bits_of : (f : Format) (x : Float) (S : ℕ) → Counts f x false S → to_bits f x ≡ cut (prec f) S * hid f + S / 2 ^ cut (prec f) S
unfolding to_bits
bits_of f x S =
    by_value (λ (z : Float). to_bits f z ≡ cut (prec f) S * hid f + S / 2 ^ cut (prec f) S) false S (2 ^ low f)
    (λ m e k. rw (k, mul-div_cancel S (down_pos e), zero-add))
    x

-- nothing is cut off
all-kept : (f : Format) (S : ℕ) → Few f S → S / 2 ^ cut (prec f) S * 2 ^ cut (prec f) S ≡ S
all-kept f S w =
    let j = cut (prec f) S in
    let s : size S ≤ prec f + w.zeros = size-le S (prec f + w.zeros) (lt_of_le_of_lt (le_of_eq (sym w.is)) (shl_lt (prec f) w.zeros w.few)) in
    let e = apart w.digits w.zeros j (omega arith) ∙ w.is in
    ap (λ (n : ℕ). n / 2 ^ j * 2 ^ j) (sym e) ∙ ap (λ (n : ℕ). n * 2 ^ j) (shl-shr (w.digits * 2 ^ (w.zeros - j)) j) ∙ e

size-gt : (n j : ℕ) → 2 ^ j ≤ n → j < size n
size-gt n j h = lt_of_not-le (λ (g : size n ≤ j). not-le_of_lt (lt_of_lt_of_le (size-lt n) (pow_mono g)) h)

-- above 2^(1012+k) units and up to 2^(1013+k): the exponent's field, and one more where there are digits below the
-- leading one
pub field_of : (x : Float) (S k : ℕ) → T (fits binary64 x) → Counts binary64 x false S → 2 ^ (1012 + k) < S → S ≤ 2 ^ (1013 + k) → (to_bits binary64 x + 0xfffffffffffff) / 0x10000000000000 ≡ k + 962
field_of x S k fit c over upto =
    let j = cut 53 S in
    let q = S / 2 ^ j in
    let b : to_bits binary64 x ≡ j * 2 ^ 52 + q = bits_of binary64 x S c in
    let w : q * 2 ^ j ≡ S = all-kept binary64 S (few-units binary64 x false S fit c) in
    elim (eq-or-lt_of_le upto) [
      | inl e ↦
          let s = size-le S (1014 + k) (lt_of_le_of_lt upto (pow-lt (omega arith))) in
          let r = size-gt S (1013 + k) (le_of_eq (sym e)) in
          let d : j ≡ 961 + k = omega arith in
          let m : q ≡ 2 ^ 52 = eq_of_mul-eq-mul_right (2 ^ j) (pow_pos j) q (2 ^ 52) (w ∙ e ∙ ap (λ (z : ℕ). 2 ^ z) (omega arith) ∙ pow-add 2 52 j) in
          omega arith
      | inr l ↦
          let s = size-le S (1013 + k) l in
          let r = size-gt S (1012 + k) (le_of_lt over) in
          let d : j ≡ 960 + k = omega arith in
          let m : 2 ^ 52 < q = lt_of_mul-lt-mul_right (2 ^ j) (lt_of_le_of_lt (le_of_eq (sym (pow-add 2 52 j) ∙ ap (λ (z : ℕ). 2 ^ z) (omega arith))) (lt_of_lt_of_le over (le_of_eq (sym w)))) in
          let n : q < 2 ^ 53 = lt_of_mul-lt-mul_right (2 ^ j) (lt_of_le_of_lt (le_of_eq w) (lt_of_lt_of_le l (le_of_eq (ap (λ (z : ℕ). 2 ^ z) (omega arith) ∙ pow-add 2 53 j)))) in
          omega arith
    ]

-- ---- a power of two, from its field
-- a - b is c - d
pub same-minus : (a b c d : ℕ) → a + d ≡ c + b → minus a b ≡ minus c d
same-minus a b c d e =
    elim (dec_le b a) [
      | yes h ↦ rw (le-leb b a h, le-leb d c (omega arith)) (ap pos (omega arith))
      | no h ↦ rw (lt-leb b a (lt_of_not-le h), lt-leb d c (omega arith)) (ap negsuc (omega arith))
    ]

power_at : (j : ℕ) → j < 2046 → of_bits binary64 (suc j * 0x10000000000000) ≡ fin false 1 (minus (j + 52) 1074)
unfolding of_fields
power_at j h =
    let z : suc j * 2 ^ 52 % 2 ^ 52 ≡ 0 = omega arith in
    unsigned binary64 (suc j * 2 ^ 52) (omega arith) ∙ ap₂ (λ (x t : ℕ). of_fields binary64 false x t) (shl-shr (suc j) 52) z ∙ rw (ne_eqb (suc j) 2047 (omega arith))

-- 2^(a-k)
pub power-of : (field a k : ℕ) → 1 ≤ field → field < 2047 → k ≤ 1074 → field + k ≡ 1023 + a → of_bits binary64 (field * 0x10000000000000) ≡ fin false 1 (minus a k)
power-of zero a k h l K e = absurd (omega arith)
power-of (suc j) a k h l K e =
    power_at j (omega arith) ∙ ap (λ (z : ℤ). fin false 1 z) (same-minus (j + 52) 1074 a k (omega arith))
