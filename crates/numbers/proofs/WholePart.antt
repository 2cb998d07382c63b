-- The whole part of a binary64, arm by arm of `whole_part`, from the value that its fields give.
-- Assumes nothing.
use mathlib.Core.Path.{◌≡◌, refl, sym, ap, ◌∙◌}
use mathlib.Core.Bool.{Bool, true, false, ◌&&◌, cond, true≢false}
use mathlib.Core.Logic.{inl, inr}
use Prim.Native.Nat.{ℕ, zero, suc, ◌+◌, ◌-◌, ◌*◌, ◌/◌, ◌%◌, ◌^◌, ◌≤◌, ◌<◌, zero-le}
use native.Mathlib.Nat.{lt_of_lt_of_le, le_trans, le_of_eq, zero-mul, mul-one, mul_assoc, mul-le-mul_right, mul-lt-mul_of_pos_right, le_of_mul-le-mul_right, lt_of_mul-lt-mul_right, div-lt_iff_lt-mul, div-one, div-eq_of_lt, min-eq_left, mul-pos, eq-or-lt_of_le, lt_irrefl, mod-eq_of_lt}
use native.Mathlib.Omega.{arith}
use borrow.Author.Tests.{lt-ltb, le-ltb, lt-leb, ne_eqb}
use lib.Dec.{eqb, lit<, lit≤}
use lib.IntN.{pos}
use lib.Pow.{pow-add, pow_pos, pow_mono, shl_lt}
use lib.Ieee.{Float, nan, inf, fin, binary64, up, down, of_fields, of_bits, to_unsigned, le, lt}
use lib.Ieee.Bits.{is_true}
use lib.Ieee.Exact.{HasValue}
use lib.Ieee.Fits.{down_pos}
use lib.Ieee.Nearest.{div_same}
use lib.Ieee.Order.{le_of_values}
use Rattle.std.specs.Prelude.{None, Some, Option}
use Rattle.answers.specs.Table.{pick}
use Rattle.numbers.specs.Conversions.{whole_part}
use Rattle.numbers.proofs.Patterns
use Rattle.numbers.proofs.Patterns.{subnormal-value, normal-value}

-- ---- by the value
abbrev cut : Float → Option ℕ
cut x = pick (le (fin false 0 (pos 0)) x && lt x (fin false 1 (pos 64))) (Some (to_unsigned 64 x)) None

pub reached : (x : Float) (a c : ℕ) → 0 < c → HasValue x false a c → le (fin false 0 (pos 0)) x ≡ true
reached x a c C h = is_true (le (fin false 0 (pos 0)) x) (le_of_values (fin false 0 (pos 0)) x 0 1 a c (lit< tt) C (refl, refl) h (le_trans (le_of_eq (zero-mul c)) zero-le))

-- the value x / d is a / c
below : (a c x d : ℕ) → 0 < d → x * c ≡ a * d → a < 2 ^ 64 * c → x * 1 < 2 ^ 64 * d
below a c x d D e h =
    let p : a * d < 2 ^ 64 * c * d = mul-lt-mul_of_pos_right h D in
    let q : x < 2 ^ 64 * d = lt_of_mul-lt-mul_right c (omega arith) in
    omega arith

above : (a c x d : ℕ) → 0 < c → x * c ≡ a * d → 2 ^ 64 * c ≤ a → 2 ^ 64 * d ≤ x * 1
above a c x d C e h =
    let p : 2 ^ 64 * c * d ≤ a * d = mul-le-mul_right d h in
    let r : 2 ^ 64 * d * c ≤ x * c = omega arith in
    let q : 2 ^ 64 * d ≤ x = le_of_mul-le-mul_right r C in
    omega arith

pub under : (x : Float) (a c : ℕ) → HasValue x false a c → a < 2 ^ 64 * c → lt x (fin false 1 (pos 64)) ≡ true
unfolding lt
under nan a c h l = absurd h
under (inf s) a c h l = absurd h
under (fin true m x) a c h l = absurd (true≢false h.0)
under (fin false m x) a c h l = lt-ltb (m * up x * 1) (2 ^ 64 * down x) (below a c (m * up x) (down x) (down_pos x) h.1 l)

pub whole-of : (x : Float) (a c : ℕ) → 0 < c → HasValue x false a c → a < 2 ^ 64 * c → to_unsigned 64 x ≡ a / c
unfolding to_unsigned
whole-of nan a c C h l = absurd h
whole-of (inf s) a c C h l = absurd h
whole-of (fin true m x) a c C h l = absurd (true≢false h.0)
whole-of (fin false m x) a c C h l =
    let q : m * up x / down x ≡ a / c = div_same (m * up x) (down x) a c (down_pos x) C h.1 in
    let f : a / c < 2 ^ 64 = (div-lt_iff_lt-mul C).1 l in
    min-eq_left (omega arith) ∙ q

whole : (x : Float) (a c n : ℕ) → 0 < c → HasValue x false a c → a < 2 ^ 64 * c → a / c ≡ n → cut x ≡ Some n
whole x a c n C h l e = rw (reached x a c C h, under x a c h l, whole-of x a c C h l) (ap Some e)

nothing : (x : Float) (a c : ℕ) → 0 < c → HasValue x false a c → 2 ^ 64 * c ≤ a → cut x ≡ None
unfolding lt
nothing nan a c C h l = absurd h
nothing (inf s) a c C h l = absurd h
nothing (fin true m x) a c C h l = absurd (true≢false h.0)
nothing (fin false m x) a c C h l =
    rw (reached (fin false m x) a c C h, le-ltb (m * up x * 1) (2 ^ 64 * down x) (above a c (m * up x) (down x) C h.1 l))

negative : (x : Float) (a c : ℕ) → HasValue x true a c → 0 < a → cut x ≡ None
unfolding le
negative nan a c h p = absurd h
negative (inf s) a c h p = absurd h
negative (fin false m x) a c h p = absurd (true≢false (sym h.0))
negative (fin true m x) a c h p =
    let q : 0 < a * down x = mul-pos p (down_pos x) in
    rw (ne_eqb (0 * down x) (m * up x * 1) (λ (e : 0 * down x ≡ m * up x * 1). let z : m * up x ≡ 0 = omega arith in lt_irrefl 0 (omega (arith, h.1, ap (λ (y : ℕ). y * c) z, q))))

-- ---- by the fields: of an exponent's field of ones, an infinity or a NaN, there is none
no_number : (s : Bool) (t : ℕ) → cut (of_fields binary64 s 2047 t) ≡ None
unfolding of_fields le lt
no_number true t = elim (eqb t 0) as (λ (z : Bool). cut (cond z (inf true) nan) ≡ None) [ true ↦ refl | false ↦ refl ]
no_number false t = elim (eqb t 0) as (λ (z : Bool). cut (cond z (inf false) nan) ≡ None) [ true ↦ refl | false ↦ refl ]

below-zero : (x t : ℕ) → x ≤ 2047 → 0 < x + t → cut (of_fields binary64 true x t) ≡ None
below-zero zero t h p = negative (of_fields binary64 true 0 t) (t * 2 ^ 0) (2 ^ 1074) (subnormal-value binary64 true t) (omega arith)
below-zero (suc j) t h p =
    elim (eq-or-lt_of_le h) [
      | inl e ↦ rw e (no_number true t)
      | inr l ↦ negative (of_fields binary64 true (suc j) t) ((2 ^ 52 + t) * 2 ^ j) (2 ^ 1074) (normal-value binary64 true j t l) (mul-pos (omega arith) (pow_pos j))
    ]

too_large : (x t : ℕ) → 1087 ≤ x → x ≤ 2047 → cut (of_fields binary64 false x t) ≡ None
too_large zero t g h = absurd (omega arith)
too_large (suc j) t g h =
    elim (eq-or-lt_of_le h) [
      | inl e ↦ rw e (no_number false t)
      | inr l ↦
          nothing (of_fields binary64 false (suc j) t) ((2 ^ 52 + t) * 2 ^ j) (2 ^ 1074) (pow_pos 1074) (normal-value binary64 false j t l)
          (le_trans (pow_mono {i = 1138} {j = 52 + j} (omega arith)) (le_trans (le_of_eq (pow-add 2 52 j)) (mul-le-mul_right (2 ^ j) (omega arith))))
    ]

-- m * 2 ^ j / 2 ^ l with its powers of two taken out
quotient : (m j l k d : ℕ) → j + k ≡ d + l → m * 2 ^ j / 2 ^ l ≡ m * 2 ^ d / 2 ^ k
quotient m j l k d e =
    div_same (m * 2 ^ j) (2 ^ l) (m * 2 ^ d) (2 ^ k) (pow_pos l) (pow_pos k)
    (mul_assoc m (2 ^ j) (2 ^ k) ∙ ap (λ (y : ℕ). m * y) (sym (pow-add 2 j k) ∙ ap (λ (y : ℕ). 2 ^ y) e ∙ pow-add 2 d l) ∙ sym (mul_assoc m (2 ^ d) (2 ^ l)))

-- k digits are cut off below the point, after d were added
pub of-fields : (x t k d : ℕ) → 1 ≤ x → x < 1087 → t < 2 ^ 52 → x + k ≡ d + 1075 → cut (of_fields binary64 false x t) ≡ Some ((2 ^ 52 + t) * 2 ^ d / 2 ^ k)
of-fields zero t k d g h b e = absurd (omega arith)
of-fields (suc j) t k d g h b e =
    whole (of_fields binary64 false (suc j) t) ((2 ^ 52 + t) * 2 ^ j) (2 ^ 1074) ((2 ^ 52 + t) * 2 ^ d / 2 ^ k) (pow_pos 1074) (normal-value binary64 false j t (omega arith))
    (lt_of_lt_of_le (shl_lt 53 j (omega arith)) (pow_mono {i = 53 + j} {j = 1138} (omega arith)))
    (quotient (2 ^ 52 + t) j 1074 k d (omega arith))

small : (x t : ℕ) → x < 1023 → t < 2 ^ 52 → cut (of_fields binary64 false x t) ≡ Some 0
small zero t h b =
    let l : t * 2 ^ 0 < 2 ^ 1074 = lt_of_lt_of_le (omega arith) (pow_mono {i = 52} {j = 1074} (lit≤ tt)) in
    whole (of_fields binary64 false 0 t) (t * 2 ^ 0) (2 ^ 1074) 0 (pow_pos 1074) (subnormal-value binary64 false t) (lt_of_lt_of_le l (pow_mono {i = 1074} {j = 1138} (lit≤ tt))) (div-eq_of_lt l)
small (suc j) t h b =
    of-fields (suc j) t (1074 - j) 0 (omega arith) (omega arith) b (omega arith)
    ∙ ap Some (div-eq_of_lt (lt_of_lt_of_le (omega arith) (pow_mono {i = 53} {j = 1074 - j} (omega arith))))

-- ---- by the bits
without_sign : (b : ℕ) → b < 2 ^ 63 → whole_part b ≡ cut (of_fields binary64 false (b % 2 ^ 63 / 2 ^ 52) (b % 2 ^ 52))
unfolding whole_part of_bits
without_sign b B = ap (λ (s : Bool). cut (of_fields binary64 s (b % 2 ^ 63 / 2 ^ 52) (b % 2 ^ 52))) (lt-leb (2 ^ 63) b B)

minus-zero : Some 0 ≡ whole_part (2 ^ 63)
unfolding whole_part of_bits le lt to_unsigned
minus-zero = refl

pub of_negative : (b : ℕ) → 2 ^ 63 < b → b < 2 ^ 64 → None ≡ whole_part b
unfolding whole_part
of_negative b l h =
    let a = b - 2 ^ 63 in
    let e : b ≡ 2 ^ 63 + a = omega arith in
    sym (ap (λ (y : ℕ). cut (of_bits binary64 y)) e ∙ ap cut (Patterns.negative binary64 a (omega arith)) ∙ below-zero (a / 2 ^ 52) (a % 2 ^ 52) (omega arith) (omega arith))

module _ (b : ℕ) (B : b ≤ 2 ^ 63) where
  pub of-large : 1087 ≤ b % 2 ^ 63 / 2 ^ 52 → None ≡ whole_part b
  of-large h = sym (without_sign b (omega arith) ∙ too_large (b % 2 ^ 63 / 2 ^ 52) (b % 2 ^ 52) h (omega arith))

  pub of-small : b % 2 ^ 63 / 2 ^ 52 < 1023 → Some 0 ≡ whole_part b
  of-small h =
      elim (eq-or-lt_of_le B) [
        | inl e ↦ minus-zero ∙ ap whole_part (sym e)
        | inr l ↦ sym (without_sign b l ∙ small (b % 2 ^ 63 / 2 ^ 52) (b % 2 ^ 52) h (omega arith))
      ]

  middle : (k d : ℕ) → 1023 ≤ b % 2 ^ 63 / 2 ^ 52 → b % 2 ^ 63 / 2 ^ 52 < 1087 → b % 2 ^ 63 / 2 ^ 52 + k ≡ d + 1075
      → whole_part b ≡ Some ((2 ^ 52 + b % 2 ^ 52) * 2 ^ d / 2 ^ k)
  middle k d l h e = without_sign b (omega arith) ∙ of-fields (b % 2 ^ 63 / 2 ^ 52) (b % 2 ^ 52) k d (omega arith) h (omega arith) e

  pub of-fraction : 1023 ≤ b % 2 ^ 63 / 2 ^ 52 → b % 2 ^ 63 / 2 ^ 52 < 1075 → Some ((2 ^ 52 + b % 2 ^ 52) / 2 ^ (1075 - b % 2 ^ 63 / 2 ^ 52)) ≡ whole_part b
  of-fraction l h =
      let k = 1075 - b % 2 ^ 63 / 2 ^ 52 in
      sym (middle k 0 l (omega arith) (omega arith) ∙ ap (λ (y : ℕ). Some (y / 2 ^ k)) (mul-one (2 ^ 52 + b % 2 ^ 52)))

  pub of-whole : 1075 ≤ b % 2 ^ 63 / 2 ^ 52 → b % 2 ^ 63 / 2 ^ 52 < 1087 → Some ((2 ^ 52 + b % 2 ^ 52) * 2 ^ (b % 2 ^ 63 / 2 ^ 52 - 1075) % 2 ^ 64) ≡ whole_part b
  of-whole l h =
      let d = b % 2 ^ 63 / 2 ^ 52 - 1075 in
      let fits : (2 ^ 52 + b % 2 ^ 52) * 2 ^ d < 2 ^ 64 = lt_of_lt_of_le (shl_lt 53 d (omega arith)) (pow_mono {i = 53 + d} {j = 64} (omega arith)) in
      sym (middle 0 d (omega arith) h (omega arith) ∙ ap Some (div-one ((2 ^ 52 + b % 2 ^ 52) * 2 ^ d) ∙ sym (mod-eq_of_lt fits)))
