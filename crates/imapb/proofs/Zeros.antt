-- Both zeros have the code in the middle of the range, and it reads as +0.
-- Assumes nothing.
use mathlib.Core.Path.{◌≡◌, refl, sym, ap, ◌∙◌}
use mathlib.Core.Bool.{Bool, true, false}
use Prim.Native.Nat.{ℕ, ◌+◌, ◌-◌, ◌*◌, ◌/◌, ◌^◌, ◌≤◌}
use native.Mathlib.Nat.{zero-mul, zero-add, add-zero, one-mul}
use lib.Dec.{lit≤}
use lib.IntN.{pos}
use lib.Pow.{pow-add, shl-shr}
use lib.Ieee.{Float, fin, Format, binary64, prec, low, round, div, of_int}
use lib.Ieee.Fits.{two, two-le_pos}
use Rattle.imapb.specs.Mapping.{one, power, code, value, code_of, value_of}
use Rattle.imapb.proofs.Rounded.{steps-le, rounded-power}
use Rattle.imapb.proofs.Above.{Over, sub-up}
use Rattle.imapb.proofs.Mapped.{Range, Placed, code_in, code_is, quotient}
use Rattle.imapb.proofs.UnitRange.{step, range-of}

abbrev pub zero_of : Bool → Float
zero_of s = fin s 0 (pos 0)

-- 0 lies W steps above the start
zero-placed : (f : Format) (s : Bool) (W c r : ℕ) → W ≤ 2 ^ c → Placed f W c r (zero_of s)
zero-placed f s W c r h = record {
  count = W * 2 ^ r;
  lies = record { sign = s; size = 0; counts = (refl, zero-mul (2 ^ low f)); over = over s };
  most = steps-le W c r h;
}
  where
    over : (s : Bool) → Over s 0 (W * 2 ^ r) (W * 2 ^ r)
    over false = zero-add (W * 2 ^ r)
    over true = add-zero (W * 2 ^ r)

code-zero : {f : Format} {shift : Float} {c t r : ℕ} (R : Range f shift (2 ^ t) c t r) (s : Bool) → code_in f shift t (zero_of s) ≡ 2 ^ t
unfolding zero-placed
code-zero {f} {shift} {c} {t} {r} R s =
    code_is R (zero-placed f s (2 ^ t) c r R.zero_in)
    ∙ ap (λ (x : ℕ). x / 2 ^ r) (rounded-power (prec f) (2 ^ t * 2 ^ r) (two-le_pos (prec f) (two f)) (t + r) (sym (pow-add 2 t r)))
    ∙ shl-shr (2 ^ t) r

module _ (L : ℕ) (least : 1 ≤ L) (most : L ≤ 8) where
  pub zero-written : (s : Bool) → code_of L (zero_of s) ≡ 2 ^ (8 * L - 2)
  unfolding code
  zero-written = code-zero (range-of L least most)

  pub zero-read : value_of L (2 ^ (8 * L - 2)) ≡ zero_of false
  unfolding value round
  zero-read =
      let t = 8 * L - 2 in
      let R = range-of L least most in
      sub-up binary64 (div binary64 (of_int binary64 (pos (2 ^ t))) (power t)) one (2 ^ t * 2 ^ step L) (2 ^ t * 2 ^ step L)
      (quotient R (2 ^ t) 1 t (sym (one-mul (2 ^ t))) (lit≤ tt) R.zero_in) R.start 0 (zero-add (2 ^ t * 2 ^ step L))
