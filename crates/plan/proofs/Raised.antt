-- The pass that takes no branch: a correlation's bits, raised by those of the least normal number, tell whether it is
-- 0, and beside its own whether it is below 1.
-- Assumes nothing.
use mathlib.Core.Path.{◌≡◌, refl, ap, ◌∙◌}
use mathlib.Core.Bool.{Bool, true, false, not}
use mathlib.Core.List.{List}
use mathlib.Core.Logic.{inl, inr}
use Prim.Native.Nat.{ℕ, zero, suc, ◌+◌, ◌-◌, ◌*◌, ◌/◌, ◌%◌, ◌^◌, ◌≤◌, ◌<◌}
use native.Mathlib.Nat.{eq-or-lt_of_le, mul-pos, mul-le-mul_left, le_of_mul-le-mul_right}
use native.Mathlib.Decide.{dec_le}
use native.Mathlib.Numerals.{add-one}
use native.Mathlib.Omega.{arith}
use borrow.Author.Tests.{eq-eqb, ne_eqb, le-ltb, lt-leb}
use lib.Bits.{bit_or, or_shr, or_mod}
use lib.Dec.{T, eqb, lit<}
use lib.ListN.{length, get_or}
use lib.Pow.{pow_pos, pow_mono}
use lib.Ieee.{binary64, of_fields, of_bits, nan_bits, le}
use lib.Ieee.Bits.{nan_bits_above}
use lib.Ieee.Exact.{HasValue}
use lib.Ieee.Positive.{positive_of_value, values_of_le}
use Rattle.numbers.proofs.Bits.{or-least}
use Rattle.numbers.proofs.Patterns.{normal-value}
use Rattle.answers.specs.Table.{pick}
use Rattle.imapb.specs.Tables.{range_rule}
use Rattle.imapb.proofs.Range.{in-range}
use Rattle.plan.specs.Zero.{is_zero}
use Rattle.plan.specs.Tally.{raise, bits_met, least_met}
use Rattle.plan.proofs.Checked.{Passed, passed_none, passed-more}

-- ---- the bits of a raised number
pub no_nan : (b : ℕ) → b < 2 ^ 62 + 2 ^ 52 → T (not (nan_bits binary64 b))
no_nan b h = rw (nan_bits_above binary64 b ∙ le-ltb (2047 * 2 ^ 52) (b % 2 ^ 63) (omega arith)) tt

-- a normal number is (2 ^ 52 + t) * 2 ^ j units of 2 ^ -1074, and the least 2 ^ 52 of them
fields-above : (j t : ℕ) → suc j < 2047 → 2 ^ 52 < suc j * 2 ^ 52 + t → T (le (of_fields binary64 false (suc j) t) (of_fields binary64 false 1 0)) → ⊥
fields-above j t h l q = go j l (le_of_mul-le-mul_right {m = (2 ^ 52 + t) * 2 ^ j} {n = (2 ^ 52 + 0) * 2 ^ 0} {k = 2 ^ 1074} fewer (pow_pos 1074))
  where
    a : HasValue (of_fields binary64 false (suc j) t) false ((2 ^ 52 + t) * 2 ^ j) (2 ^ 1074)
    a = normal-value binary64 false j t h

    b : HasValue (of_fields binary64 false 1 0) false ((2 ^ 52 + 0) * 2 ^ 0) (2 ^ 1074)
    b = normal-value binary64 false 0 0 (lit< tt)

    some : 0 < (2 ^ 52 + t) * 2 ^ j
    some = mul-pos {m = 2 ^ 52 + t} {n = 2 ^ j} (omega arith) (pow_pos j)

    fewer : (2 ^ 52 + t) * 2 ^ j * 2 ^ 1074 ≤ (2 ^ 52 + 0) * 2 ^ 0 * 2 ^ 1074
    fewer =
        values_of_le (of_fields binary64 false (suc j) t) (of_fields binary64 false 1 0) ((2 ^ 52 + t) * 2 ^ j) (2 ^ 1074) ((2 ^ 52 + 0) * 2 ^ 0) (2 ^ 1074)
        (positive_of_value (of_fields binary64 false (suc j) t) ((2 ^ 52 + t) * 2 ^ j) (2 ^ 1074) a some) (positive_of_value (of_fields binary64 false 1 0) ((2 ^ 52 + 0) * 2 ^ 0) (2 ^ 1074) b (lit< tt)) a b q

    go : (j : ℕ) → 2 ^ 52 < suc j * 2 ^ 52 + t → (2 ^ 52 + t) * 2 ^ j ≤ (2 ^ 52 + 0) * 2 ^ 0 → ⊥
    go zero l w = omega arith
    go (suc i) l w = omega (arith, mul-le-mul_left (2 ^ 52 + t) (pow_mono {i = 1} {j = suc i} (omega arith)))

refuted : (q : Bool) → (T q → ⊥) → q ≡ false
refuted true h = absurd (h tt)
refuted false h = refl

-- raised bits are those of the least normal number, or of a larger one
pub least-is : (b : ℕ) → 2 ^ 52 ≤ b → b < 2 ^ 62 + 2 ^ 52 → le (of_bits binary64 b) (of_bits binary64 (2 ^ 52)) ≡ eqb b (2 ^ 52)
unfolding of_bits
least-is b h l =
    elim (eq-or-lt_of_le h) [
      | inl e ↦ rw (← e) (unfold le in refl)
      | inr m ↦
          let x = b % 2 ^ 63 / 2 ^ 52 in
          let j : x ≡ suc (x - 1) = omega arith in
          rw (ne_eqb b (2 ^ 52) (omega arith), lt-leb (2 ^ 63) b (omega arith), j)
          (refuted _ (fields-above (x - 1) (b % 2 ^ 52) (omega arith) (omega arith)))
    ]

-- ---- a bit that is clear in the one or the other is clear in both
or-clear : (a b : ℕ) → bit_or a b / 2 ^ 62 % 2 ≡ 0 → (a / 2 ^ 62 % 2 ≡ 0) × (b / 2 ^ 62 % 2 ≡ 0)
or-clear a b e =
    let q : bit_or a b / 2 ^ 62 % 2 ≡ bit_or (a / 2 ^ 62 % 2) (b / 2 ^ 62 % 2) = ap (λ (n : ℕ). n % 2) (or_shr a b 62) ∙ or_mod (a / 2 ^ 62) (b / 2 ^ 62) 1 in
    let m = or-least (a / 2 ^ 62 % 2) (b / 2 ^ 62 % 2) in
    (omega (arith, q, e, m.0), omega (arith, q, e, m.1))

-- ---- a number that leaves it clear, itself and raised
module _ (v : ℕ) (own : v / 2 ^ 62 % 2 ≡ 0) where
  raised-passes : (v % 2 ^ 62 + 2 ^ 52) / 2 ^ 62 % 2 ≡ 0 → (range_rule v).number ≡ 0
  raised-passes e = rw (in-range v (omega arith))

  raised-zero : eqb (v % 2 ^ 62 + 2 ^ 52) (2 ^ 52) ≡ is_zero v
  raised-zero =
      elim (dec_le (v % 2 ^ 63) 0) [
        | yes h ↦ rw (eq-eqb (v % 2 ^ 63) 0 (omega arith), eq-eqb (v % 2 ^ 62 + 2 ^ 52) (2 ^ 52) (omega arith))
        | no h ↦ rw (ne_eqb (v % 2 ^ 63) 0 (omega arith), ne_eqb (v % 2 ^ 62 + 2 ^ 52) (2 ^ 52) (omega arith))
      ]

-- ---- the pass: at most all are counted, and where the bit is clear those met lie within and are counted
one_at_most : (q : Bool) → pick q 1 0 ≤ 1
one_at_most true = omega arith
one_at_most false = omega arith

pub least-le : (cs : List ℕ) (k : ℕ) → least_met cs k ≤ k
least-le cs zero = omega arith
least-le cs (suc k) = omega (arith, least-le cs k, one_at_most (eqb (raise (get_or cs k 0)) (2 ^ 52)))

pub met-passed : (cs : List ℕ) (k : ℕ) → k ≤ length cs → bits_met cs k / 2 ^ 62 % 2 ≡ 0 → Passed cs (least_met cs k) k
met-passed cs zero h e = passed_none cs
met-passed cs (suc k) h e =
    let v = get_or cs k 0 in
    let f = or-clear (bits_met cs k) (bit_or v (raise v)) e in
    let g = or-clear v (raise v) f.1 in
    let x : ℕ = pick (eqb (raise v) (2 ^ 52)) 1 0 in
    rw add-one at (passed-more (met-passed cs k (omega arith) f.0) h (raised-passes v g.0 g.1) {x = x} (rw (raised-zero v g.0)))
