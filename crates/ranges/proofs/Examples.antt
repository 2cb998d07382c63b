-- Readings worked out, each at a small input where something else is easily promised.
-- Assumes nothing.
use Rattle.std.proofs.Common.{◌≡◌, ℕ, ◌+◌, ◌^◌, Bool, true, false, List, [], ◌∷◌, replicate, pos, refl}
use lib.Ieee.{fin, binary64, of_bits, add, sub, mul, div, of_int, to_unsigned, lt, le, fits}
use Rattle.imapb.specs.declared.decode.DecodedImapb.{DecodedImapb}
use Rattle.imapb.specs.declared.decode.DecodedImapb.TheVariants.{Value, OutOfRange}
use Rattle.imapb.specs.Mapping.{one}
use Rattle.ranges.specs.Floor.{floor_of}
use Rattle.ranges.specs.Range.{power_of, span_of, good_range, scale_in, step_in, offset_in, top_in, value_in, epsilon_in, number_in, reading_in}

-- over numbers by their bits
abbrev read : ℕ → ℕ → ℕ → ℕ → DecodedImapb
read min max L y = reading_in (of_bits binary64 min) (of_bits binary64 max) L y

abbrev value : ℕ → DecodedImapb
value bits = Value (of_bits binary64 bits)

abbrev readings : List DecodedImapb
readings =
    -- -0.7 to -0.1: where max is not above 0 there is no offset, and code 0 reads as min
    read 0xbfe6666666666666 0xbfb999999999999a 1 0
    -- -0.9 to 0.1: code 0 reads below min, by less than a step, and is a value
    ∷ read 0xbfeccccccccccccd 0x3fb999999999999a 1 0
    -- -0.6 to 0.5: 0.5 is exceeded by a rounding, and that is a value
    ∷ read 0xbfe3333333333333 0x3fe0000000000000 1 71
    -- -1e-300 to 1: code 0 reads a whole step below min, 129 is the top code, and 130 lies past it
    ∷ read 0x81a56e1fc2f8f359 0x3ff0000000000000 1 0
    ∷ read 0x81a56e1fc2f8f359 0x3ff0000000000000 1 129
    ∷ read 0x81a56e1fc2f8f359 0x3ff0000000000000 1 130
    -- 16.2 to 32.2: the span is rounded to just above 16, so that b is 5 and a step 0.25
    ∷ read 0x4030333333333333 0x404019999999999a 1 1
    ∷ []

readings-are : readings
    ≡ value 0xbfe6666666666666 ∷ value 0xbfed000000000000 ∷ value 0x3fe0000000000001 ∷ value 0xbf80000000000000
    ∷ Value one ∷ OutOfRange (of_bits binary64 0x3ff0200000000000) ∷ value 0x4030733333333333 ∷ []
unfolding number_in value_in top_in epsilon_in step_in offset_in scale_in power_of span_of of_bits add sub mul div of_int to_unsigned lt le floor_of
readings-are = refl

-- over -1e-300 to 1 the offset is exactly 1, so that the top code lies above 2^7
offset-one : offset_in (of_bits binary64 0x81a56e1fc2f8f359) one 1 ≡ one
unfolding offset_in scale_in power_of span_of of_bits sub mul of_int lt le floor_of
offset-one = refl

top_above : top_in (of_bits binary64 0x81a56e1fc2f8f359) one 1 ≡ 2 ^ 7 + 1
unfolding top_in offset_in scale_in power_of span_of of_bits add sub mul of_int to_unsigned lt le floor_of
top_above = refl

-- over -5e-324 to 2^60 scale·min is rounded, to -0
scaled-rounds : let min = of_bits binary64 0x8000000000000001 in mul binary64 (scale_in min (of_bits binary64 0x43b0000000000000) 1) min ≡ fin true 0 (pos 0)
unfolding scale_in power_of span_of of_bits sub mul le
scaled-rounds = refl

-- ---- good ranges, by the bits of their ends, and those that are not
abbrev good : ℕ → ℕ → Bool
good min max = good_range (of_bits binary64 min) (of_bits binary64 max)

-- b from -60 to 60: 0 to 2^60, and to the number above 2^-61
goods-are : good 0 0x43b0000000000000 ∷ good 0 0x3c20000000000001 ∷ [] ≡ true ∷ true ∷ []
unfolding good_range power_of span_of of_bits sub lt le fits
goods-are = refl

abbrev bad : List Bool
bad =
    -- b outside: 0 to the number above 2^60, to 2^61, to 2^-61
    good 0 0x43b0000000000001
    ∷ good 0 0x43c0000000000000
    ∷ good 0 0x3c20000000000000
    -- an end that is a NaN or infinite
    ∷ good 0x7ff8000000000000 0
    ∷ good 0 0x7ff8000000000000
    ∷ good 0xfff0000000000000 0
    ∷ good 0 0x7ff0000000000000
    -- -1e308 to 1e308, whose span is infinite, and 1 to 1
    ∷ good 0xffe1ccf385ebc8a0 0x7fe1ccf385ebc8a0
    ∷ good 0x3ff0000000000000 0x3ff0000000000000
    ∷ []

bad-are : bad ≡ replicate 9 false
unfolding good_range power_of span_of of_bits sub lt le fits
bad-are = refl
