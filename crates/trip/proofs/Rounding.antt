-- Deviations: what a binary32 keeps of one, widened again, has the bits of its rounding.
-- Assumes nothing.
use mathlib.Core.Path.{◌≡◌, refl, sym, ap, ap₂, ◌∙◌}
use mathlib.Core.Bool.{Bool, true, false, cond}
use Prim.Native.Nat.{ℕ, ◌+◌, ◌-◌, ◌*◌, ◌/◌, ◌%◌, ◌^◌, ◌<◌}
use native.Mathlib.Nat.{lt_of_not-le}
use native.Mathlib.Decide.{dec_le}
use native.Mathlib.Omega.{arith}
use lib.Dec.{T, eqb, leb}
use lib.Ieee.{Float, nan, inf, fin, Format, binary32, binary64, prec, low, up, down, size, hid, top, is_nan, of_fields, of_bits, to_bits}
use lib.Ieee.Bits.{of_bits-to_bits, nan_bits_is}
use lib.Ieee.Exact.{HasValue}
use lib.Ieee.Fits.{down_pos, fits_widens}
use lib.Ieee.Nearest.{div_same}
use lib.Ieee.Scale.{finite}
use Rattle.numbers.specs.Conversions.{nearest, converted, SameNumber}
use Rattle.numbers.proofs.Exact.{nearest-fits, widened_same}
use Rattle.numbers.proofs.Patterns.{number-bits}
use Rattle.trip.specs.Values.{deviation_kept}
use Rattle.trip.specs.RoundTrip.{rounding}

-- ---- a number's bits go by its value
abbrev bits_from : Format → Bool → ℕ → ℕ
bits_from f s n = cond s (top f) 0 + (size n - prec f) * hid f + n / 2 ^ (size n - prec f)

-- of x = ±a / c, those of a / c in units
bits-by-value : (f : Format) (x : Float) (s : Bool) (a c : ℕ) → 0 < c → HasValue x s a c → to_bits f x ≡ bits_from f s (a * 2 ^ low f / c)
unfolding to_bits
bits-by-value f nan s a c C h = absurd h
bits-by-value f (inf t) s a c C h = absurd h
bits-by-value f (fin t m e) s a c C h =
    ap₂ (λ (r : Bool) (n : ℕ). bits_from f r n) h.0
    (div_same (m * up e * 2 ^ low f) (down e) (a * 2 ^ low f) c (down_pos e) C (omega (arith, ap (λ (z : ℕ). z * 2 ^ low f) h.1)))

-- one number, one pattern
same_bits : (f : Format) (x y : Float) → SameNumber x y → to_bits f x ≡ to_bits f y
same_bits f x y p =
    bits-by-value f x p.sign p.size p.over p.some p.first ∙ sym (bits-by-value f y p.sign p.size p.over p.some p.second)

-- ---- where a pattern is finite
-- no infinity or NaN is
no_number : (s z : Bool) → T (finite (cond z (inf s) nan)) → ⊥
no_number s true t = t
no_number s false t = t

-- so no exponent of all ones is
finite-fields : (s : Bool) (t x : ℕ) → x ≡ 255 → T (finite (of_fields binary32 s x t)) → ⊥
unfolding of_fields
finite-fields s t x e h = no_number s (eqb t 0) (rw e at h)

-- and a finite pattern lies below the infinity's
finite-under : (b : ℕ) → T (finite (of_bits binary32 b)) → b % 2 ^ 31 < 255 * 2 ^ 23
unfolding of_bits
finite-under b h =
    elim (dec_le (255 * 2 ^ 23) (b % 2 ^ 31)) [
      | yes k ↦ absurd (finite-fields (leb (2 ^ 31) b) (b % 2 ^ 23) (b % 2 ^ 31 / 2 ^ 23) (omega arith) h)
      | no k ↦ lt_of_not-le k
    ]

-- what is rounded to a finite number was no NaN
number_of : (x : Float) → T (finite (nearest binary32 x)) → is_nan x ≡ false
unfolding nearest is_nan
number_of nan t = absurd t
number_of (inf s) t = refl
number_of (fin s m e) t = refl

-- ---- widening a finite binary32 keeps its bits
widened-bits : (b : ℕ) → T (finite (of_bits binary32 b)) → converted binary32 binary64 b ≡ to_bits binary64 (of_bits binary32 b)
widened-bits b h =
    let small = finite-under b h in
    let z = nearest binary64 (of_bits binary32 b) in
    let e : converted binary32 binary64 b ≡ to_bits binary64 z = number-bits binary32 binary64 b (omega arith) in
    e ∙ ap (to_bits binary64) (sym (of_bits-to_bits binary64 z (nearest-fits binary64 (of_bits binary32 b))) ∙ ap (of_bits binary64) (sym e))
    ∙ sym (same_bits binary64 (of_bits binary32 b) (of_bits binary64 (converted binary32 binary64 b)) (widened_same b small))

-- what comes back of a deviation that is finite once rounded
pub kept-rounding : (d : ℕ) → T (finite (nearest binary32 (of_bits binary64 d))) → deviation_kept d ≡ rounding d
kept-rounding d h =
    let y = nearest binary32 (of_bits binary64 d) in
    let e : converted binary64 binary32 d ≡ to_bits binary32 y = unfold converted in rw (nan_bits_is, number_of (of_bits binary64 d) h) in
    let v : of_bits binary32 (to_bits binary32 y) ≡ y = of_bits-to_bits binary32 y (nearest-fits binary32 (of_bits binary64 d)) in
    rw e (widened-bits (to_bits binary32 y) (rw v h) ∙ ap (to_bits binary64) v)

-- the number that those bits are
pub rounding-value : (d : ℕ) → of_bits binary64 (rounding d) ≡ nearest binary32 (of_bits binary64 d)
rounding-value d =
    let y = nearest binary32 (of_bits binary64 d) in
    of_bits-to_bits binary64 y (fits_widens y (nearest-fits binary32 (of_bits binary64 d)))
