-- The two tests of a code's reading that never hold: its value is finite, and it is not below min less epsilon.
-- Assumes nothing.
use Rattle.std.proofs.Common.{◌≡◌, ℕ, suc, ◌+◌, ◌-◌, ◌*◌, ◌^◌, ◌<◌, ◌≤◌, Bool, true, false, T, pos, negsuc, refl, ap, ◌∙◌, le_trans, lt_of_le_of_lt, mul-le-mul_right, lt_of_not-le, arith, lit<, lit≤, pow_pos, pow_mono, pow-add, le-ltb, lt-ltb, le-leb}
use native.Mathlib.Nat.{pow-succ'}
use native.Mathlib.Decide.{dec_le}
use borrow.Author.Tests.{lt-leb}
use lib.Pow.{pow-lt}
use lib.Ieee.{Float, Format, fin, binary64, prec, emax, low, unlike, minus, of_int, add, sub, neg, mul, lt}
use lib.Ieee.Fits.{two}
use lib.Ieee.Scale.{finite, overflow}
use Rattle.imapb.proofs.Rounded.{rounded, rounded-top}
use Rattle.imapb.proofs.Units.{Counts, neg-counts}
use Rattle.imapb.proofs.Above.{Over}
use Rattle.ranges.specs.Range.{span_of, power_of, good_range, larger, step_in, offset_in, top_in, value_in, epsilon_in, number_in}
use Rattle.ranges.specs.Tables.{mapping_in, mapped_number}
use Rattle.ranges.proofs.Spanned.{Spanned}
use Rattle.ranges.proofs.Order.{power-counts}
use Rattle.ranges.proofs.Power.{spanned, good-fits, good-finite}
use Rattle.ranges.proofs.Scaled.{Upto, below_power, int-upto, mul-upto, scale-upto}
use Rattle.ranges.proofs.Offset.{offset-counts}
use Rattle.ranges.proofs.Step.{step_is}
use Rattle.ranges.proofs.Sums.{digits, finite-counts, Largest, largest, rise, fall, Rounds, add_rounds, not-below, Held, held, held-sum}

-- a number up to 2 ^ 117 in size, and S units below 0 at most
record Reaches (f : Format) (S : ℕ) (x : Float) : Type 0 where
  pub sign : Bool
  pub units : ℕ
  pub counts : Counts f x sign units
  pub most : units ≤ 2 ^ (117 + low f)
  pub least : fall sign units ≤ S

-- two numbers up to a power of two add up to the next at most
twice : (a b i : ℕ) → a ≤ 2 ^ i → b ≤ 2 ^ i → a + b ≤ 2 ^ suc i
twice a b i h k = omega (arith, pow-succ' 2 i)

eightfold : (a v w u : ℕ) → a ≤ 1 * v → w ≡ 8 * v → a * 8 * u ≤ 1 * w * (u * 1)
eightfold a v w u h e = let b : a * 8 ≤ w = omega arith in omega (arith, mul-le-mul_right u b)

-- a step of 2 ^ (k - b), for spans up to 2 ^ 60 and codes of 1 to 8 bytes
record Step (k b : ℕ) : Type 0 where
  pub some : 1 ≤ k
  pub few : k ≤ 121
  pub long : 68 ≤ b
  pub short : b ≤ 124

step-for : (k L : ℕ) → 1 ≤ k → k ≤ 121 → 1 ≤ L → L ≤ 8 → Step k (8 * L + 60)
step-for k L h g least most = record { some = h; few = g; long = omega arith; short = omega arith }

-- ---- in a format that is wide enough
module _ (f : Format) (F : 124 + prec f ≤ emax f) (k b : ℕ) (K : Step k b) where
  abbrev step_of : Float
  step_of = fin false 1 (minus k b)

  -- the size of a step, in units
  abbrev S : ℕ
  S = 2 ^ (low f + k - b)

  small : (m : ℕ) → m ≤ 123 + low f → 1 * 2 ^ m < overflow f
  small m h = below_power 1 1 m (low f + suc (emax f)) (lit< tt) (omega arith)

  step_counts : Counts f step_of false S
  step_counts = power-counts f k b (low f + k - b) (omega (arith, two f))

  -- y less an offset up to 1, in steps: it lies a step below 0 at most
  scaled : (z : Float) (y o : ℕ) → y ≤ 2 ^ (64 + low f) → o ≤ 2 ^ low f → Rounds f (0 + o) (y + 0) z → Reaches f S (mul f step_of z)
  scaled z y o Y O r = go r.sign r.size r.counts r.over
    where
      times : (s : Bool) (j m d : ℕ) → d ≤ 2 ^ j → k + j ≤ m + b → m ≤ 117 + low f → Counts f z s (rounded (prec f) d) → Upto f (mul f step_of z) (unlike false s) (1 * 2 ^ m)
      times s j m d h l g c =
          scale-upto f k b z s (rounded (prec f) d) 1 j m c (pow_pos (prec f)) (small m (omega arith)) (omega arith) (omega (arith, rounded-top (prec f) d (digits f) j h))

      go : (s : Bool) (d : ℕ) → Counts f z s (rounded (prec f) d) → Over s d (0 + o) (y + 0) → Reaches f S (mul f step_of z)
      go false d c e =
          let p = times false (64 + low f) (117 + low f) d (omega arith) (omega arith) (omega arith) c in
          record { sign = false; units = p.0; counts = p.1; most = omega (arith, p.2); least = omega arith }
      go true d c e =
          let p = times true (low f) (low f + k - b) d (omega arith) (omega (arith, two f)) (omega arith) c in
          record { sign = true; units = p.0; counts = p.1; most = le_trans {n = p.0} p.2 (omega (arith, pow_mono {i = low f + k - b} {j = 117 + low f} (omega arith))); least = omega (arith, p.2) }

  -- ---- the value, and min less a number that is a step at least
  module _ (off min : Float) (o : ℕ) (O : Counts f off false o) (O' : o ≤ 2 ^ low f) (m : Held f min) where
    abbrev steps_of : ℕ → Float
    steps_of y = mul f step_of (sub f (of_int f (pos y)) off)

    steps : (y : ℕ) → y < 2 ^ 64 → Reaches f S (steps_of y)
    unfolding sub
    steps y h =
        let i = int-upto f y h in
        let n : i.0 ≤ 2 ^ (64 + low f) = omega (arith, i.2) in
        let r = rounded-top (prec f) (i.0 + o) (digits f) (suc (64 + low f)) (twice i.0 o (64 + low f) n (le_trans O' (pow_mono (omega arith)))) in
        scaled (add f (of_int f (pos y)) (neg off)) i.0 o n O'
        (add_rounds f (of_int f (pos y)) (neg off) false true i.0 o i.1 (neg-counts f off false o O) (lt_of_le_of_lt r (pow-lt (omega arith))))

    value-rounds : (y : ℕ) (h : y < 2 ^ 64) → let p = steps y h in
        Rounds f (fall p.sign p.units + fall m.sign m.units) (rise p.sign p.units + rise m.sign m.units) (add f (steps_of y) min)
    value-rounds y h =
        let p = steps y h in
        add_rounds f (steps_of y) min p.sign m.sign p.units m.units p.counts m.counts
        (held-sum f m (117 + low f) (p.units + m.units) (omega arith) (omega (arith, p.most)))

    finite-value : (y : ℕ) → y < 2 ^ 64 → finite (add f (steps_of y) min) ≡ true
    finite-value y h =
        let v = value-rounds y h in
        finite-counts f (add f (steps_of y) min) v.sign (rounded (prec f) v.size) v.counts

    least-value : (e : Float) (E : ℕ) → Counts f e false E → S ≤ E → E ≤ 2 ^ (117 + low f)
        → (y : ℕ) → y < 2 ^ 64 → lt (add f (steps_of y) min) (sub f min e) ≡ false
    unfolding sub
    least-value e E c l g y h =
        let p = steps y h in
        let w = add_rounds f min (neg e) m.sign true m.units E m.counts (neg-counts f e false E c) (held-sum f m (117 + low f) (m.units + E) (omega arith) (omega arith)) in
        not-below f (add f (steps_of y) min) (add f min (neg e))
        (fall p.sign p.units + fall m.sign m.units) (rise p.sign p.units + rise m.sign m.units)
        (fall m.sign m.units + E) (rise m.sign m.units + 0)
        (value-rounds y h) w (omega (arith, p.least))

  -- ---- epsilon is a step at least
  epsilon : (x : Float) (u : ℕ) → Counts f x false u → u ≤ 2 ^ (60 + low f)
      → Largest f S (2 ^ (117 + low f)) (larger step_of (mul f (mul f x (fin false 1 (negsuc 51))) (fin false 1 (pos 3))))
  epsilon x u c h =
      let l = low f in
      let y = mul f x (fin false 1 (negsuc 51)) in
      let p =
      mul-upto f x (fin false 1 (negsuc 51)) false false u 1 (2 ^ l) (2 ^ 52) 1 (60 + l) (pow_pos l) (pow_pos 52) c (refl, refl) (pow_pos (prec f)) (small (60 + l) (omega arith))
      (omega (arith, mul-le-mul_right (2 ^ l) h)) in
      let q =
      mul-upto f y (fin false 1 (pos 3)) false false p.0 (2 ^ 3) (2 ^ l) 1 1 (63 + l) (pow_pos l) (lit< tt) p.1 (refl, refl) (pow_pos (prec f)) (small (63 + l) (omega arith))
      (eightfold p.0 (2 ^ (60 + l)) (2 ^ (63 + l)) (2 ^ l) p.2 (ap (λ (z : ℕ). 2 ^ z) (omega arith) ∙ pow-add 2 3 (60 + l))) in
      largest f step_of (mul f y (fin false 1 (pos 3))) S q.0 (2 ^ (117 + l)) step_counts q.1 (pow_mono (omega arith)) (omega (arith, q.2, pow_mono {i = 63 + l} {j = 117 + l} (omega arith)))

-- ---- over a range, in binary64
span-most : (k : ℕ) → k ≤ 121 → 2 ^ (1013 + k) ≤ 2 ^ 1134
span-most k h = pow_mono {j = 1134} (omega arith)

module _ (min max : Float) (good : T (good_range min max)) (L : ℕ) (least : 1 ≤ L) (most : L ≤ 8) where
  sp : Spanned min max
  sp = spanned good

  off : Upto binary64 (offset_in min max L) false (2 ^ 1074)
  off = offset-counts min max good L least most

  step : step_in min max L ≡ fin false 1 (minus (power_of (span_of min max)) (8 * L + 60))
  step = step_is sp {L = L} least most

  min-held : Held binary64 min
  min-held = held binary64 min (good-fits min max good).0 (good-finite min max good).0

  K : Step (power_of (span_of min max)) (8 * L + 60)
  K = step-for (power_of (span_of min max)) L sp.least sp.most least most

  pub value-finite : (y : ℕ) → y < 2 ^ 64 → finite (value_in min max L y) ≡ true
  unfolding value_in
  value-finite = rw step (finite-value binary64 (lit≤ tt) (power_of (span_of min max)) (8 * L + 60) K (offset_in min max L) min off.0 off.1 off.2 min-held)

  pub value-least : (y : ℕ) → y < 2 ^ 64 → lt (value_in min max L y) (sub binary64 min (epsilon_in min max L)) ≡ false
  unfolding value_in epsilon_in
  value-least =
      let k = power_of (span_of min max) in
      let b = 8 * L + 60 in
      let e = epsilon binary64 (lit≤ tt) k b K (span_of min max) sp.units sp.counts (le_trans sp.upto (span-most k sp.most)) in
      rw step
      (least-value binary64 (lit≤ tt) k b K (offset_in min max L) min off.0 off.1 off.2 min-held
      (larger (fin false 1 (minus k b)) (mul binary64 (mul binary64 (span_of min max) (fin false 1 (negsuc 51))) (fin false 1 (pos 3))))
      e.units e.counts e.least e.most)

  -- so a code is a value exactly when it is at most the top code
  pub number_is : (y : ℕ) → y < 2 ^ 64 → number_in min max L y ≡ mapped_number (mapping_in min max L) y
  unfolding number_in value_in
  number_is y h =
      let t = top_in min max L in
      elim (dec_le y t) [
        | yes l ↦ rw (value-finite y h, value-least y h, le-ltb t y l, le-leb y t l)
        | no l ↦ rw (value-finite y h, value-least y h, lt-ltb t y (lt_of_not-le l), lt-leb y t (lt_of_not-le l))
      ]
