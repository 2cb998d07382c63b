-- A bit pattern by its sign, its exponent's field and its digits, and what `converted` makes of each kind: laws over
-- both formats.
-- Assumes nothing.
use mathlib.Core.Path.{◌≡◌, refl, sym, ap, ap₂, ◌∙◌}
use mathlib.Core.Bool.{Bool, true, false, cond}
use mathlib.Core.Logic.{inl, inr}
use Prim.Native.Nat.{ℕ, zero, suc, ◌+◌, ◌-◌, ◌*◌, ◌/◌, ◌%◌, ◌^◌, ◌≤◌, ◌<◌, min}
use native.Mathlib.Nat.{lt_irrefl, lt_of_not-le, le_trans, le_of_lt, le_of_suc-le-suc, mul_comm, div-add-mod', le-add_right, zero-add, div-eq_of_lt, mod-eq_of_lt, add-mod_left, mul-add-mod_self_left, div-lt_iff_lt-mul, eq-or-lt_of_le}
use native.Mathlib.Decide.{dec_le}
use native.Mathlib.Omega.{arith}
use borrow.Author.Tests.{le-leb, lt-leb, lt-ltb, le-ltb, ne_eqb}
use lib.Dec.{lit≤}
use lib.Pow.{pow_pos}
use lib.Ieee.{Float, nan, inf, fin, Format, binary32, binary64, prec, low, up, down, round, of_fields, of_bits, to_bits, hid, ones, top}
use lib.Ieee.Bits.{nan_bits_above}
use lib.Ieee.Exact.{HasValue, odd_sign}
use lib.Ieee.Fits.{down_pos}
use lib.Ieee.Order.{drop, kept}
use lib.Ieee.Scale.{round_same}
use Rattle.numbers.specs.Conversions.{nearest, quiet_nan, top_fraction, converted}
use Rattle.numbers.proofs.Rounding.{bits-of-round}

-- ---- the value of a finite pattern: a field of 0 has no leading digit
pub subnormal-value : (f : Format) (s : Bool) (t : ℕ) → HasValue (of_fields f s 0 t) s (t * 2 ^ 0) (2 ^ low f)
unfolding of_fields
subnormal-value f s t = odd_sign (prec f) s t 0 (low f)

pub normal-value : (f : Format) (s : Bool) (j t : ℕ) → suc j < ones f → HasValue (of_fields f s (suc j) t) s ((hid f + t) * 2 ^ j) (2 ^ low f)
unfolding of_fields
normal-value f s j t h = rw (ne_eqb (suc j) (ones f) (λ (e : suc j ≡ ones f). lt_irrefl (ones f) (rw e at h))) (odd_sign (prec f) s (hid f + t) j (low f))

-- ---- rounding goes by the value
pub nearest-is : (f : Format) (x : Float) (s : Bool) (a c : ℕ) → 0 < c → HasValue x s a c → nearest f x ≡ round f s a c
unfolding nearest
nearest-is f nan s a c C h = absurd h
nearest-is f (inf t) s a c C h = absurd h
nearest-is f (fin t m e) s a c C h =
    ap (λ (r : Bool). round f r (m * up e) (down e)) h.0 ∙ round_same f s (m * up e) (down e) a c (down_pos e) C h.1

-- a sign adds its bit, to the pattern of the same size without one
same_size : (f : Format) (x y : Float) (s : Bool) (a c : ℕ) → 0 < c → HasValue x s a c → HasValue y false a c
    → to_bits f (nearest f x) ≡ cond s (top f) 0 + to_bits f (nearest f y)
same_size f x y s a c C h k =
    let n = a * 2 ^ low f in
    let size = min (drop (prec f) n c * hid f + kept (prec f) n c) (ones f * hid f) in
    ap (λ (z : Float). to_bits f z) (nearest-is f x s a c C h)
    ∙ bits-of-round f s a c
    ∙ ap (λ (z : ℕ). cond s (top f) 0 + z) (sym (ap (λ (z : Float). to_bits f z) (nearest-is f y false a c C k) ∙ bits-of-round f false a c ∙ zero-add size))

-- ---- patterns without a sign
pub unsigned : (f : Format) (b : ℕ) → b < top f → of_bits f b ≡ of_fields f false (b / hid f) (b % hid f)
unfolding of_bits
unsigned f b h = ap₂ (λ (s : Bool) (r : ℕ). of_fields f s (r / hid f) (b % hid f)) (lt-leb (top f) b h) (mod-eq_of_lt h)

-- a pattern that is no NaN's
pub number-bits : (from to : Format) (b : ℕ) → b % top from ≤ ones from * hid from → converted from to b ≡ to_bits to (nearest to (of_bits from b))
unfolding converted
number-bits from to b h = rw (nan_bits_above, le-ltb (ones from * hid from) (b % top from) h)

module _ (from to : Format) (b : ℕ) (B : b < top from) where
  -- above the infinity's pattern stand the NaNs'
  pub nan-bits : ones from * hid from < b → converted from to b ≡ quiet_nan to false (top_fraction from b)
  unfolding converted
  nan-bits h = rw (nan_bits_above, mod-eq_of_lt B, lt-ltb (ones from * hid from) b h, lt-leb (top from) b B)

  pub finite-bits : (m j : ℕ) → b ≤ ones from * hid from → HasValue (of_fields from false (b / hid from) (b % hid from)) false (m * 2 ^ j) (2 ^ low from)
      → converted from to b ≡ to_bits to (round to false (m * 2 ^ j) (2 ^ low from))
  finite-bits m j h v =
      number-bits from to b (rw (mod-eq_of_lt B) h)
      ∙ ap (λ (x : Float). to_bits to (nearest to x)) (unsigned from b B)
      ∙ ap (λ (x : Float). to_bits to x) (nearest-is to (of_fields from false (b / hid from) (b % hid from)) false (m * 2 ^ j) (2 ^ low from) (pow_pos (low from)) v)

  pub subnormal-bits : b < hid from → converted from to b ≡ to_bits to (round to false (b * 2 ^ 0) (2 ^ low from))
  subnormal-bits h =
      finite-bits b 0 (le_trans (le_of_lt h) (le-mul from))
      (rw (div-eq_of_lt h, mod-eq_of_lt h) (subnormal-value from false b))
    where
      le-mul : (f : Format) → hid f ≤ ones f * hid f
      le-mul binary32 = lit≤ tt
      le-mul binary64 = lit≤ tt

  pub normal-bits : (j : ℕ) → b / hid from ≡ suc j → suc j < ones from
      → converted from to b ≡ to_bits to (round to false ((hid from + b % hid from) * 2 ^ j) (2 ^ low from))
  normal-bits j e h =
      finite-bits (hid from + b % hid from) j
      (le_of_lt ((div-lt_iff_lt-mul (pow_pos (prec from - 1))).0 (rw e h)))
      (rw e (normal-value from false j (b % hid from) h))

-- ---- with a sign: its bit is added
over-sign : (f : Format) (b : ℕ) → b < top f → (top f + b) % top f ≡ b
over-sign f b B = add-mod_left (top f) b ∙ mod-eq_of_lt B

over-fraction : (f : Format) (b : ℕ) → (top f + b) % hid f ≡ b % hid f
over-fraction f b = mul-add-mod_self_left (hid f) (suc (ones f)) b

pub negative : (f : Format) (b : ℕ) → b < top f → of_bits f (top f + b) ≡ of_fields f true (b / hid f) (b % hid f)
unfolding of_bits
negative f b B = rw (le-leb (top f) (top f + b) (le-add_right (top f) b), over-sign f b B, over-fraction f b)

infinity-signed : (from to : Format) → to_bits to (nearest to (of_fields from true (ones from) 0)) ≡ top to + to_bits to (nearest to (of_fields from false (ones from) 0))
unfolding to_bits nearest of_fields
infinity-signed binary32 binary32 = refl
infinity-signed binary32 binary64 = refl
infinity-signed binary64 binary32 = refl
infinity-signed binary64 binary64 = refl

fields-signed : (from to : Format) (x t : ℕ) → x ≤ ones from → (x ≡ ones from → t ≡ 0)
    → to_bits to (nearest to (of_fields from true x t)) ≡ top to + to_bits to (nearest to (of_fields from false x t))
fields-signed from to zero t X z =
    same_size to (of_fields from true 0 t) (of_fields from false 0 t) true (t * 2 ^ 0) (2 ^ low from) (pow_pos (low from)) (subnormal-value from true t) (subnormal-value from false t)
fields-signed from to (suc j) t X z =
    elim (eq-or-lt_of_le X) [
      | inl e ↦ rw (e, z e) (infinity-signed from to)
      | inr h ↦
          same_size to (of_fields from true (suc j) t) (of_fields from false (suc j) t) true ((hid from + t) * 2 ^ j) (2 ^ low from) (pow_pos (low from))
          (normal-value from true j t h) (normal-value from false j t h)
    ]

pub signed : (from to : Format) (b : ℕ) → b < top from → converted from to (top from + b) ≡ top to + converted from to b
signed from to b B =
    elim (dec_le b (ones from * hid from)) [
      | yes h ↦
          let x : b / hid from ≤ ones from = le_of_suc-le-suc ((div-lt_iff_lt-mul (pow_pos (prec from - 1))).1 (rw (mul_comm (suc (ones from)) (hid from)) B)) in
          let z : b / hid from ≡ ones from → b % hid from ≡ 0 = λ e. omega (arith, ap (λ (y : ℕ). y * hid from) e, div-add-mod' b (hid from)) in
          number-bits from to (top from + b) (rw (over-sign from b B) h)
          ∙ ap (λ (y : Float). to_bits to (nearest to y)) (negative from b B)
          ∙ fields-signed from to (b / hid from) (b % hid from) x z
          ∙ ap (λ (y : Float). top to + to_bits to (nearest to y)) (sym (unsigned from b B))
          ∙ ap (λ (y : ℕ). top to + y) (sym (number-bits from to b (rw (mod-eq_of_lt B) h)))
      | no h ↦ nan (lt_of_not-le h) ∙ ap (λ (y : ℕ). top to + y) (sym (nan-bits from to b B (lt_of_not-le h)))
    ]
  where
    nan : ones from * hid from < b → converted from to (top from + b) ≡ top to + quiet_nan to false (top_fraction from b)
    nan h =
        unfold converted in
        rw (nan_bits_above, over-sign from b B, lt-ltb (ones from * hid from) b h, le-leb (top from) (top from + b) (le-add_right (top from) b), over-fraction from b)
        (omega arith)
