-- The range -1 to 1 is the instance that `imapb` reads codes over.
-- Assumes nothing.
use Rattle.std.proofs.Common.{◌≡◌, ℕ, ◌+◌, ◌-◌, ◌*◌, ◌^◌, ◌<◌, ◌≤◌, true, false, T, eqb, leb, List, length, pos, sym, refl, ap, ◌∙◌, lt_of_le_of_lt, le_of_lt, mul-pos, arith, lit<, pow_pos, pow-add, le-leb}
use lib.Ieee.{Float, fin, Format, binary64, low, up, down, minus, round, add, sub, mul, div, of_int, to_unsigned, lt, le, fits}
use lib.Ieee.Fits.{down_pos, of_int-fits}
use lib.Ieee.Scale.{round_same, overflow}
use Rattle.answers.specs.Table.{pick}
use Rattle.numbers.specs.Words.{word_of}
use Rattle.imapb.specs.Mapping.{power, one, minus_one, scale_of, top_of, value, value_of}
use Rattle.imapb.specs.Special.{unless_special}
use Rattle.imapb.specs.Tables.{reads, supported, imapb_read}
use Rattle.imapb.specs.declared.decode.DecodedImapb.{DecodedImapb}
use Rattle.imapb.specs.declared.decode.DecodedImapb.TheVariants.{Value, OutOfRange}
use Rattle.imapb.proofs.Units.{Counts, by_value, exact}
use Rattle.imapb.proofs.Above.{sub-up}
use Rattle.ranges.specs.Floor.{floor_of}
use Rattle.ranges.specs.Range.{zero_float, power_of, span_of, good_range, scale_in, step_in, offset_in, top_in, value_in, number_in}
use Rattle.ranges.specs.Tables.{imapb_read_in}
use Rattle.ranges.specs.Instance.{UnitParts, UnitRange}
use Rattle.ranges.proofs.Order.{power-is}
use Rattle.ranges.proofs.Power.{spanned, good-is}
use Rattle.ranges.proofs.Field.{few-units}
use Rattle.ranges.proofs.Scaled.{below_power, int-upto, mul-value}
use Rattle.ranges.proofs.Step.{same-rule, step_is}
use Rattle.ranges.proofs.Number.{number_is}
use Rattle.answers.proofs.Rules.{by_bool}
use Rattle.imapb.proofs.Length.{lengths}
use Rattle.ranges.proofs.Reading.{word_small}

-- ---- the span is 2, and b is 1
span-is : span_of minus_one one ≡ power 1
unfolding span_of sub
span-is = refl

power-one : power_of (power 1) ≡ 62
unfolding power_of le
power-one = refl

k-is : power_of (span_of minus_one one) ≡ 62
k-is = ap power_of span-is ∙ power-one

good : good_range minus_one one ≡ true
unfolding fits lt le
good = good-is minus_one one ∙ rw span-is

-- ---- what a length decides
scale-of : (L : ℕ) → 1 ≤ L → scale_in minus_one one L ≡ scale_of L
unfolding scale_in
scale-of L h = rw (k-is, le-leb 62 (8 * L + 60) (omega arith)) (ap (λ (t : ℕ). power t) (omega arith))

-- of i + 1 bytes: -scale has no fraction
abbrev scaled : ℕ → Float
scaled i = mul binary64 (power (8 * i + 6)) minus_one

no_fraction : (i : ℕ) → i < 8 → sub binary64 (scaled i) (floor_of (scaled i)) ≡ zero_float
unfolding mul floor_of sub of_int
no_fraction = same-rule (λ i. sub binary64 (scaled i) (floor_of (scaled i))) (λ i. zero_float) 8 refl

-- and the span has twice its steps
doubled : (i : ℕ) → i < 8 → to_unsigned 64 (add binary64 (mul binary64 (power (8 * i + 6)) (power 1)) zero_float) ≡ 2 ^ (8 * i + 7)
unfolding mul add to_unsigned
doubled = same-rule (λ i. to_unsigned 64 (add binary64 (mul binary64 (power (8 * i + 6)) (power 1)) zero_float)) (λ i. 2 ^ (8 * i + 7)) 8 refl

-- ---- a code less 0, in steps of 1 / 2^t, is the code over 2^t
less_zero : (f : Format) (x : Float) (a : ℕ) → T (fits f x) → Counts f x false a → a < overflow f → Counts f (sub f x zero_float) false a
less_zero f x a t c o =
    let w = few-units f x false a t c in
    rw (sub-up f x zero_float a 0 c (refl, omega arith) a (omega arith), ← w.is) (exact f false w.digits w.zeros (le_of_lt w.few) (rw w.is o))

over-power : (f : Format) (t : ℕ) (x : Float) (a : ℕ) → Counts f x false a → div f x (power t) ≡ round f false a (2 ^ t * 2 ^ low f)
unfolding div
over-power f t x a =
    by_value (λ (z : Float). div f z (power t) ≡ round f false a (2 ^ t * 2 ^ low f)) false a (2 ^ low f)
    (λ m e k. round_same f false (m * up e * 1) (1 * 2 ^ t * down e) a (2 ^ t * 2 ^ low f) (mul-pos (mul-pos (lit< tt) (pow_pos t)) (down_pos e)) (mul-pos (pow_pos t) (pow_pos (low f)))
    (omega (arith, ap (λ (z : ℕ). z * 2 ^ t) k)))
    x

same-steps : (f : Format) (k b t : ℕ) → k + t ≡ b → (x z : Float) (a : ℕ) → Counts f x false a → Counts f z false a → mul f (fin false 1 (minus k b)) z ≡ div f x (power t)
same-steps f k b t e x z a h g =
    let u = 2 ^ low f in
    mul-value f (fin false 1 (minus k b)) z false false (2 ^ k) a (2 ^ b) u (pow_pos b) (pow_pos (low f)) (power-is k b) g
    ∙ round_same f false (2 ^ k * a) (2 ^ b * u) a (2 ^ t * u) (mul-pos (pow_pos b) (pow_pos (low f))) (mul-pos (pow_pos t) (pow_pos (low f)))
    (rw (← e, pow-add) (omega arith))
    ∙ sym (over-power f t x a h)

module _ (L : ℕ) (least : 1 ≤ L) (most : L ≤ 8) where
  exponent : 8 * L - 2 ≡ 8 * (L - 1) + 6
  exponent = omega arith

  offset-of : offset_in minus_one one L ≡ zero_float
  unfolding offset_in lt
  offset-of = rw (scale-of L least, exponent) (no_fraction (L - 1) (omega arith))

  top-of : top_in minus_one one L ≡ top_of L
  unfolding top_in
  top-of = rw (scale-of L least, span-is, offset-of, exponent) (doubled (L - 1) (omega arith) ∙ ap (λ (n : ℕ). 2 ^ n) (omega arith))

  step_of : step_in minus_one one L ≡ fin false 1 (minus 62 (8 * L + 60))
  step_of = rw k-is at (step_is (spanned {min = minus_one} {max = one} (rw good tt)) {L = L} least most)

  value-of : (y : ℕ) → y < 2 ^ 64 → value_in minus_one one L y ≡ value_of L y
  unfolding value_in value sub
  value-of y h =
      let x = of_int binary64 (pos y) in
      let i = int-upto binary64 y h in
      let z = less_zero binary64 x i.0 (of_int-fits binary64 (pos y)) i.1 (lt_of_le_of_lt i.2 (below_power 1 1 1138 2098 (lit< tt) (omega arith))) in
      rw (offset-of, step_of) (ap (λ (v : Float). add binary64 v minus_one) (same-steps binary64 62 (8 * L + 60) (8 * L - 2) (omega arith) x (sub binary64 x zero_float) i.0 i.1 z))

  pub unit-parts : UnitParts L
  unit-parts = record { scale = scale-of L least; offset = offset-of; top = top-of; value = value-of }

  number_of : (y : ℕ) → y < 2 ^ 64 → number_in minus_one one L y ≡ pick (leb y (top_of L)) (Value (value_of L y)) (OutOfRange (value_of L y))
  unfolding value_in
  number_of y h = rw (number_is minus_one one (rw good tt) L least most y h, top-of, value-of y h)

pub unit-range : UnitRange
unit-range = record { is = read }
  where
    read : (L : ℕ) (bytes : List ℕ) → imapb_read_in minus_one one L bytes ≡ imapb_read L bytes
    read L bytes =
        by_bool (supported L)
        (λ s. by_bool (eqb (length bytes) L)
        (λ q. let l = lengths L s in
        rw (s, good, q) (ap (λ (d : DecodedImapb). reads (unless_special L (word_of bytes) d)) (number_of L l.0 l.1 (word_of bytes) (word_small bytes))))
        (λ q. rw (s, good, q)))
        (λ s. rw s)
