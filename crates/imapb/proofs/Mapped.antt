-- The mapping over any range: codes up to 2 ^ c, in steps of 2 ^ r units, from W steps below 0 on. The scale is 2 ^ t.
-- Another range is another `Range`: `code_is`, `code-top` and `back-near` hold of each.
-- Assumes nothing.
use mathlib.Core.Path.{◌≡◌, sym, ap, ◌∙◌}
use mathlib.Core.Bool.{false}
use Prim.Native.Nat.{ℕ, suc, ◌+◌, ◌*◌, ◌/◌, ◌^◌, ◌≤◌, ◌<◌}
use native.Mathlib.Nat.{le_trans, le_of_eq, lt_of_le_of_lt, lt_of_lt_of_le, mul-one, mul-div-mul_right}
use native.Mathlib.Omega.{arith}
use lib.Dec.{lit≤}
use lib.IntN.{pos}
use lib.Pow.{pow-add, pow_pos, pow_mono, pow-lt}
use lib.Ieee.{Float, Format, binary32, binary64, prec, emax, low, round, add, sub, mul, div, of_int, to_unsigned}
use lib.Ieee.Fits.{two, two-le_pos}
use lib.Ieee.Nearest.{closest}
use lib.Ieee.Scale.{overflow}
use Rattle.numbers.proofs.WholePart.{whole-of}
use Rattle.imapb.specs.Mapping.{power}
use Rattle.imapb.specs.Precision.{Near}
use Rattle.imapb.proofs.Rounded.{cut, rounded, joined, steps-le, kept-few, rounded-top, steps-top, steps-over, steps-under}
use Rattle.imapb.proofs.Units.{Counts, round-counts, exact, int_is, mul_is, div_is}
use Rattle.imapb.proofs.Above.{Lies, add-over, sub_lies}
use Rattle.imapb.proofs.Near.{near}

-- `code` and `value` in either format
abbrev pub code_in : Format → Float → ℕ → Float → ℕ
code_in f shift t v = to_unsigned 64 (mul f (add f v shift) (power t))

abbrev pub value_in : Format → Float → ℕ → ℕ → Float
value_in f shift t y = sub f (div f (of_int f (pos y)) (power t)) shift

-- n units rounded to the format's digits
abbrev pub rounded_in : Format → ℕ → ℕ
rounded_in f n = rounded (prec f) n

-- either format reaches past every code
pub wide : (f : Format) → 64 ≤ emax f
wide binary32 = lit≤ tt
wide binary64 = lit≤ tt

-- what makes a range: it starts at -shift, W steps below 0, and its codes go up to 2 ^ c
pub record Range (f : Format) (shift : Float) (W c t r : ℕ) : Type 0 where
  pub codes : c < 64
  pub split : r + t ≡ low f
  pub start : Counts f shift false (W * 2 ^ r)
  pub zero_in : W ≤ 2 ^ c

-- v lies in it, that many units above its start
pub record Placed (f : Format) (W c r : ℕ) (v : Float) : Type 0 where
  pub count : ℕ
  pub lies : Lies f (W * 2 ^ r) count v
  pub most : count ≤ 2 ^ (c + r)

module _ {f : Format} {shift : Float} {W c t r : ℕ} (R : Range f shift W c t r) where
  P : 0 < prec f
  P = two-le_pos (prec f) (two f)

  -- nothing overflows
  room : (g k : ℕ) → k ≤ low f → g ≤ 2 ^ (c + k) → g < overflow f
  room g k K h = lt_of_le_of_lt h (pow-lt (omega (arith, wide f)))

  room-steps : (y k : ℕ) → k ≤ low f → y ≤ 2 ^ c → y * 2 ^ k < overflow f
  room-steps y k K h = room (y * 2 ^ k) k K (steps-le y c k h)

  -- ---- writing
  module _ {v : Float} (p : Placed f W c r v) where
    top : rounded_in f p.count ≤ 2 ^ (c + r)
    top = rounded-top (prec f) p.count P (c + r) p.most

    -- the sum is rounded once
    pub sum-counts : Counts f (add f v shift) false (rounded_in f p.count)
    sum-counts = rw (add-over f v shift (W * 2 ^ r) p.count p.lies R.start) (round-counts f p.count (room (rounded_in f p.count) r (omega arith) top))

    scaled-top : rounded_in f p.count * 2 ^ t ≤ 2 ^ (c + low f)
    scaled-top = le_trans (steps-le (rounded_in f p.count) (c + r) t top) (pow_mono (omega arith))

    -- scaled exactly
    pub product : Counts f (mul f (add f v shift) (power t)) false (rounded_in f p.count * 2 ^ t)
    product =
        let n = p.count in
        let k = cut (prec f) n in
        let q = closest n (2 ^ k) in
        let e : rounded_in f n * 2 ^ t ≡ q * 2 ^ (k + t) = joined q k t in
        rw (mul_is f t (add f v shift) (rounded_in f n) sum-counts, e) (exact f false q (k + t) (kept-few (prec f) n) (room (q * 2 ^ (k + t)) (low f) (omega arith) (rw e at scaled-top)))

    pub product_small : rounded_in f p.count * 2 ^ t < 2 ^ 64 * 2 ^ low f
    product_small = lt_of_le_of_lt scaled-top (lt_of_lt_of_le (pow-lt {j = 64 + low f} (omega arith)) (le_of_eq (pow-add 2 64 (low f))))

    -- and its whole part taken
    pub code_is : code_in f shift t v ≡ rounded_in f p.count / 2 ^ r
    code_is =
        whole-of (mul f (add f v shift) (power t)) (rounded_in f p.count * 2 ^ t) (2 ^ low f) (pow_pos (low f)) product product_small
        ∙ ap (λ (x : ℕ). rounded_in f p.count * 2 ^ t / x) (ap (λ (x : ℕ). 2 ^ x) (sym R.split) ∙ pow-add 2 r t)
        ∙ mul-div-mul_right (rounded_in f p.count) (2 ^ r) (pow_pos t)

    pub code-top : code_in f shift t v ≤ 2 ^ c
    code-top = rw code_is (steps-top (prec f) c r p.count P p.most)

  -- ---- reading y, which is q * 2 ^ i with few digits
  module _ (y q i : ℕ) (is : y ≡ q * 2 ^ i) (few : q ≤ 2 ^ prec f) (most : y ≤ 2 ^ c) where
    held : (k : ℕ) → k ≤ low f → Counts f (round f false (y * 2 ^ k) (2 ^ low f)) false (y * 2 ^ k)
    held k K =
        let e : y * 2 ^ k ≡ q * 2 ^ (i + k) = ap (λ (x : ℕ). x * 2 ^ k) is ∙ joined q i k in
        rw e (exact f false q (i + k) few (rw e at (room-steps y k K most)))

    -- scaled exactly
    pub quotient : Counts f (div f (of_int f (pos y)) (power t)) false (y * 2 ^ r)
    quotient =
        let e : y * 2 ^ low f ≡ y * 2 ^ r * 2 ^ t = sym (joined y r t ∙ ap (λ (x : ℕ). y * 2 ^ x) R.split) in
        let int : Counts f (of_int f (pos y)) false (y * 2 ^ low f) = rw int_is (held (low f) (omega arith)) in
        rw (div_is f t (of_int f (pos y)) (y * 2 ^ r) (rw e at int)) (held r (omega arith))

  -- ---- where the format's digits hold every code, the difference is exact too
  module _ (few : c ≤ prec f) where
    pub value-lies : (y : ℕ) → y ≤ 2 ^ c → Lies f (W * 2 ^ r) (y * 2 ^ r) (value_in f shift t y)
    value-lies y h =
        let d = pow_mono few in
        sub_lies f (div f (of_int f (pos y)) (power t)) shift y W r (quotient y y 0 (sym (mul-one y)) (le_trans h d) h) R.start
        (omega arith) (omega arith) (room-steps y r (omega arith) h) (room-steps W r (omega arith) R.zero_in)

    -- Less than a step below v, and above it by the sum's rounding alone.
    -- A code with more digits than the format keeps needs another lemma in the place of `value-lies`: that its value
    -- lies at the rounded sum itself.
    pub back-near : {v : Float} (j : ℕ) → c + r ≡ prec f + suc j → Placed f W c r v → Near f (2 ^ j) (2 ^ r) v (value_in f shift t (code_in f shift t v))
    back-near {v} j e p =
        let n = p.count in
        let y = rounded_in f n / 2 ^ r in
        rw (code_is p)
        (near f (2 ^ j) (2 ^ r) (W * 2 ^ r) n (y * 2 ^ r) v (value_in f shift t y) p.lies (value-lies y (steps-top (prec f) c r n P p.most))
        (steps-over (prec f) c r n P p.most j e) (steps-under (prec f) c r n P p.most few))
