-- The bounds of a correlation are no wider than they must be: at length 1 one comes back 2^-53 above what was sent,
-- and one a step, but for 2^-52, below it.
-- Assumes nothing.
use mathlib.Core.Path.{◌≡◌, refl}
use Prim.Native.Nat.{ℕ, ◌-◌, ◌^◌}
use lib.IntN.{ℤ, pos, ◌+ℤ◌}
use lib.Ieee.{binary64, of_bits, to_bits, of_int, to_unsigned, add, sub, mul, div, round}
use Rattle.imapb.specs.Mapping.{code, value}
use Rattle.imapb.specs.Precision.{units}
use Rattle.trip.specs.Values.{correlation_kept}
use Rattle.trip.specs.RoundTrip.{above, below}

-- a correlation by its bits
abbrev units_of : ℕ → ℤ
units_of c = units binary64 (of_bits binary64 c)

-- 2^-6 - 2^-53 comes back as 2^-6
pub bound-reached : units_of (correlation_kept 1 0x3f8fffffffffffc0) ≡ (units_of 0x3f8fffffffffffc0 +ℤ pos above)
unfolding code value of_bits to_bits of_int to_unsigned add sub mul div round
bound-reached = refl

-- 2^-6 - 2^-52 comes back as 0
pub step-neared : units_of 0x3f8fffffffffff80 ≡ (units_of (correlation_kept 1 0x3f8fffffffffff80) +ℤ pos (below 1 - 2 ^ 1022))
unfolding code value of_bits to_bits of_int to_unsigned add sub mul div round
step-neared = refl
