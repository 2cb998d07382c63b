-- Codes and readings worked out, at the places where a wrong rounding or a wrong table would show.
-- Assumes nothing.
use mathlib.Core.Path.{◌≡◌, refl}
use Prim.Native.Nat.{◌+◌, ◌-◌, ◌*◌, ◌/◌, ◌^◌}
use lib.Ieee.{binary64, of_bits, add, sub, mul, div, of_int, to_unsigned}
use Rattle.imapb.specs.declared.special.ImapbSpecial.TheVariants.{PositiveInfinity, BelowMin, AboveMax}
use Rattle.imapb.specs.declared.decode.DecodedImapb.TheVariants.{Value, Special, ReservedSpecial, OutOfRange}
use Rattle.imapb.specs.Mapping.{code, value, code_of, value_of}
use Rattle.imapb.specs.Special.{reading}

-- the largest number below 1 has the code of 1: its sum with 1 is rounded to 2, and unrounded would be cut to 7F
just-below-one : code_of 1 (of_bits binary64 0x3fefffffffffffff) ≡ 0x80
unfolding code of_bits add mul to_unsigned
just-below-one = refl

unrounded : (2 ^ 53 - 1 + 2 ^ 53) * 2 ^ 6 / 2 ^ 53 ≡ 0x7f
unrounded = refl

-- 0.5234375 is a step and a half above 0.5: the whole part is taken, not the nearest
cut : code_of 1 (of_bits binary64 0x3fe0c00000000000) ≡ 0x61
unfolding code of_bits add mul to_unsigned
cut = refl

half : code_of 2 (of_bits binary64 0x3fe0000000000000) ≡ 0x6000
unfolding code of_bits add mul to_unsigned
half = refl

read-half : value_of 1 0x60 ≡ of_bits binary64 0x3fe0000000000000
unfolding value of_bits sub div of_int
read-half = refl

-- 1.015625
past_one : value_of 1 0x81 ≡ of_bits binary64 0x3ff0400000000000
unfolding value of_bits sub div of_int
past_one = refl

read_one : reading 1 0x80 ≡ Value (of_bits binary64 0x3ff0000000000000)
unfolding value of_bits sub div of_int
read_one = refl

read-past-one : reading 1 0x81 ≡ OutOfRange (of_bits binary64 0x3ff0400000000000)
unfolding value of_bits sub div of_int
read-past-one = refl

-- ---- special codes, and what Tables 2 and 3 reserve
infinity : reading 1 0xc8 ≡ Special PositiveInfinity
infinity = refl

infinity-with-payload : reading 2 0xc801 ≡ ReservedSpecial 0xc801
infinity-with-payload = refl

below-min : reading 2 0xe000 ≡ Special BelowMin
below-min = refl

above-max : reading 2 0xe100 ≡ Special AboveMax
above-max = refl

above-max-with-more : reading 2 0xe101 ≡ ReservedSpecial 0xe101
above-max-with-more = refl
