-- A number lies from -1 to 1 exactly where its bits without the sign are at most those of 1.
-- Assumes nothing.
use mathlib.Core.Path.{◌≡◌, refl, sym, ap, ◌∙◌}
use mathlib.Core.Bool.{Bool, true, false, not, ◌&&◌, ◌||◌, cond}
use mathlib.Core.List.{[], ◌∷◌}
use mathlib.Core.Logic.{inl, inr}
use Prim.Native.Nat.{ℕ, zero, suc, ◌+◌, ◌-◌, ◌*◌, ◌/◌, ◌%◌, ◌^◌, ◌≤◌, ◌<◌}
use native.Mathlib.Nat.{lt_of_le_of_lt, le_trans, le_of_eq, mul-le-mul_right, mul-lt-mul_of_pos_right, eq-or-lt_of_le}
use native.Mathlib.Omega.{arith, by_contra}
use borrow.Author.Tests.{lt-ltb, le-ltb, eq-eqb, ne_eqb}
use lib.Dec.{T, leb, ltb, eqb, lit<, lit≤}
use lib.IntN.{ℤ}
use lib.Pow.{pow-add, pow_pos, pow_mono}
use lib.Ieee.{Float, nan, inf, fin, binary64, up, down, of_fields, of_bits, to_bits, is_nan, le}
use lib.Ieee.Exact.{HasValue}
use lib.Ieee.Fits.{down_pos}
use lib.Ieee.Order.{transfer}
use Rattle.std.specs.Prelude.{Ok, Err, Result, ⊤}
use Rattle.numbers.proofs.Patterns.{subnormal-value, normal-value}
use Rattle.answers.specs.Table.{Answer, answer, bits64, pick, passes}
use Rattle.answers.specs.Listed.{listed, checked}
use Rattle.answers.specs.declared.Refusal.{Refusal}
use Rattle.answers.proofs.OneToOne.{done-not-refused}
use Rattle.imapb.specs.Mapping.{one, minus_one, in_range}
use Rattle.imapb.specs.Tables.{range_rule}

pub one-is : of_bits binary64 0x3ff0000000000000 ≡ one
unfolding of_bits
one-is = refl

pub range-number : (x : Float) → T (in_range x) → is_nan x ≡ false
unfolding is_nan le
range-number nan t = absurd t
range-number (inf s) t = refl
range-number (fin s m e) t = refl

-- ---- by the value: the size of m * 2 ^ e against 1
at_most : (a b : ℕ) (q : Bool) → a ≤ b → (a ≡ b → q ≡ true) → ltb a b || q ≡ true
at_most a b q h e =
    elim (eq-or-lt_of_le h) [
      | inl p ↦ rw (le-ltb a b (le_of_eq (sym p))) (e p)
      | inr l ↦ rw (lt-ltb a b l)
    ]

fin-in : (s : Bool) (m : ℕ) (e : ℤ) → m * up e * 1 ≤ 1 * down e → in_range (fin s m e) ≡ true
unfolding le
fin-in false m e h =
    rw (lt-ltb 0 (1 * down e + m * up e * 1) (omega (arith, down_pos e)))
    (at_most (m * up e * 1) (1 * down e) _ h (λ p. rw (eq-eqb (m * up e * 1) (1 * down e) p)))
fin-in true m e h =
    rw (at_most (m * up e * 1) (1 * down e) (eqb (1 * down e) (m * up e * 1) && true) h (λ p. rw (eq-eqb (1 * down e) (m * up e * 1) (sym p))), lt-ltb 0 (m * up e * 1 + 1 * down e) (omega (arith, down_pos e)))

fin-out : (s : Bool) (m : ℕ) (e : ℤ) → 1 * down e < m * up e * 1 → in_range (fin s m e) ≡ false
unfolding le
fin-out false m e h =
    rw (lt-ltb 0 (1 * down e + m * up e * 1) (omega (arith, down_pos e)), le-ltb (m * up e * 1) (1 * down e) (omega arith), ne_eqb (m * up e * 1) (1 * down e) (omega arith))
fin-out true m e h =
    rw (le-ltb (m * up e * 1) (1 * down e) (omega arith), ne_eqb (1 * down e) (m * up e * 1) (omega arith))

pub value_in : (x : Float) (s : Bool) (a c : ℕ) → 0 < c → HasValue x s a c → a ≤ c → in_range x ≡ true
value_in nan s a c C h l = absurd h
value_in (inf t) s a c C h l = absurd h
value_in (fin t m e) s a c C h l = fin-in t m e (transfer (m * up e) 1 (down e) 1 a 1 c 1 C (lit< tt) h.1 refl (omega arith))

value_out : (x : Float) (s : Bool) (a c : ℕ) → 0 < c → HasValue x s a c → c < a → in_range x ≡ false
value_out nan s a c C h l = absurd h
value_out (inf t) s a c C h l = absurd h
value_out (fin t m e) s a c C h l =
    fin-out t m e
    (by_contra (suc (1 * down e)) (m * up e * 1)
    (λ k. omega (arith, transfer a 1 c 1 (m * up e) 1 (down e) 1 (down_pos e) (lit< tt) (sym h.1) refl (omega arith))))

-- ---- by the fields: the value is (2 ^ 52 + t) * 2 ^ j units of 2 ^ -1074, and 1 is 2 ^ (1074 - j) * 2 ^ j of them
no_number : (s z : Bool) → in_range (cond z (inf s) nan) ≡ false
unfolding le
no_number true true = refl
no_number false true = refl
no_number s false = refl

module _ (s : Bool) (t : ℕ) (small : t < 2 ^ 52) where
  fields_in : (x : ℕ) → x * 2 ^ 52 + t ≤ 1023 * 2 ^ 52 → in_range (of_fields binary64 s x t) ≡ true
  fields_in zero h =
      value_in (of_fields binary64 s 0 t) s (t * 2 ^ 0) (2 ^ 1074) (pow_pos 1074) (subnormal-value binary64 s t)
      (le_trans (omega arith) (pow_mono {i = 52} {j = 1074} (lit≤ tt)))
  fields_in (suc j) h =
      value_in (of_fields binary64 s (suc j) t) s ((2 ^ 52 + t) * 2 ^ j) (2 ^ 1074) (pow_pos 1074) (normal-value binary64 s j t (omega arith))
      (le_trans (mul-le-mul_right (2 ^ j) fewer) (le_trans (le_of_eq (sym (pow-add 2 (1074 - j) j))) (pow_mono {i = 1074 - j + j} {j = 1074} (omega arith))))
    where
      fewer : 2 ^ 52 + t ≤ 2 ^ (1074 - j)
      fewer =
          elim (eq-or-lt_of_le {n = suc j} {m = 1023} (omega arith)) [
            | inl e ↦ le_trans (omega arith) (pow_mono {i = 52} {j = 1074 - j} (omega arith))
            | inr l ↦ le_trans (omega arith) (pow_mono {i = 53} {j = 1074 - j} (omega arith))
          ]

  fields_out : (x : ℕ) → x ≤ 2047 → 1023 * 2 ^ 52 < x * 2 ^ 52 + t → in_range (of_fields binary64 s x t) ≡ false
  fields_out zero k h = absurd (omega arith)
  fields_out (suc j) k h =
      elim (eq-or-lt_of_le k) [
        | inl e ↦ rw e (unfold of_fields in no_number s (eqb t 0))
        | inr l ↦
            value_out (of_fields binary64 s (suc j) t) s ((2 ^ 52 + t) * 2 ^ j) (2 ^ 1074) (pow_pos 1074) (normal-value binary64 s j t l)
            (lt_of_le_of_lt (le_trans (pow_mono {i = 1074} {j = 1074 - j + j} (omega arith)) (le_of_eq (pow-add 2 (1074 - j) j))) (mul-lt-mul_of_pos_right more (pow_pos j)))
      ]
    where
      more : 2 ^ (1074 - j) < 2 ^ 52 + t
      more =
          elim (eq-or-lt_of_le {n = 1023} {m = suc j} (omega arith)) [
            | inl e ↦ lt_of_le_of_lt (pow_mono {i = 1074 - j} {j = 52} (omega arith)) (omega arith)
            | inr l ↦ lt_of_le_of_lt (pow_mono {i = 1074 - j} {j = 51} (omega arith)) (omega arith)
          ]

module _ (b : ℕ) where
  pub in-range : b % 2 ^ 63 ≤ 0x3ff0000000000000 → in_range (of_bits binary64 b) ≡ true
  unfolding of_bits
  in-range h = fields_in (leb (2 ^ 63) b) (b % 2 ^ 52) (omega arith) (b % 2 ^ 63 / 2 ^ 52) (omega arith)

  pub out_of_range : 0x3ff0000000000000 < b % 2 ^ 63 → in_range (of_bits binary64 b) ≡ false
  unfolding of_bits
  out_of_range h = fields_out (leb (2 ^ 63) b) (b % 2 ^ 52) (omega arith) (b % 2 ^ 63 / 2 ^ 52) (omega arith) (omega arith)

-- ---- what the rule of the range tells of a number
abbrev outside : ℕ → Answer
outside v = answer 3 (bits64 v ∷ bits64 (to_bits binary64 minus_one) ∷ bits64 (to_bits binary64 one) ∷ [])

-- a number that the rule does not refuse lies in the range
pub range-told : (v : ℕ) → (range_rule v).number ≡ 0 → in_range (of_bits binary64 v) ≡ true
range-told v e = go (in_range (of_bits binary64 v)) e
  where
    go : (b : Bool) → (pick (not b) (outside v) passes).number ≡ 0 → b ≡ true
    go true e = refl
    go false e = absurd (omega arith)

module _ (v : ℕ) {k : Result ⊤ Refusal} (e : checked k ≡ range_rule v) where
  pub range-passed : k ≡ (Ok tt) → in_range (of_bits binary64 v) ≡ true
  range-passed h = range-told v (ap (λ (a : Answer). a.number) (sym e ∙ ap checked h))

  pub range-refused : {r : Refusal} → k ≡ Err r → in_range (of_bits binary64 v) ≡ false
  range-refused {r} h = go (in_range (of_bits binary64 v)) (rw h at e)
    where
      go : (b : Bool) → listed r ≡ pick (not b) (outside v) passes → b ≡ false
      go true e = absurd (done-not-refused passes r refl (sym e))
      go false e = refl
