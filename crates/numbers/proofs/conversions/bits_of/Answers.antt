-- `conversions::bits_of` meets its contract: only a NaN differs from itself.
use mathlib.Core.Path.{◌≡◌, refl}
use mathlib.Core.Bool.{false, not, true≢false}
use lib.Dec.{T}
use lib.Ieee.{Float, nan, inf, fin, binary64, to_bits, is_nan, ne}
use lib.Ieee.Compare.{differs_from_itself}
use Rattle.numbers.proofs.conversions.bits_of.Goals as goal

-- only a NaN has no bits
equals_itself : (x : Float) → ne x x ≡ false → T (not (is_nan x))
unfolding ne is_nan
equals_itself nan h = absurd (true≢false h)
equals_itself (inf s) h = tt
equals_itself (fin s m e) h = tt

nan_is : 0x7ff8000000000000 ≡ to_bits binary64 nan
unfolding to_bits
nan_is = refl

pub float_to_bits-result : goal.float_to_bits-result
float_to_bits-result c = equals_itself c.args.number c.if-number.false

pub returns-then-number : goal.returns-then-number
returns-then-number c = rw (differs_from_itself c.args.number (rw c.if-number.true tt)) nan_is
