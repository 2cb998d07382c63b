-- ST 1201.5's mapping over a range from min to max, for codes of L bytes: every step is imapb.rs's, with its one
-- rounding. Only the exponent of the scale is document 02's, by the bits of the span and not by a logarithm.
use Rattle.std.specs.Prelude.{ℕ, zero, suc, ◌+◌, ◌*◌, Bool, false, not, ◌&&◌, pos, negsuc, nat_le, nat_lt, Float}
use Rattle.std.specs.Float.{fin, binary64}
use Rattle.std.specs.Float.Ieee.{minus, add, sub, mul, div, of_int, to_unsigned, lt, le, fits}
use Rattle.std.specs.Float.Ieee.Scale.{finite}
use Rattle.answers.specs.Table.{pick}
use Rattle.imapb.specs.declared.decode.DecodedImapb.{DecodedImapb}
use Rattle.imapb.specs.declared.decode.DecodedImapb.TheVariants.{Value, OutOfRange}
use Rattle.imapb.specs.Mapping.{one}
use Rattle.imapb.specs.Special.{unless_special}
use Rattle.ranges.specs.Floor.{floor_of}

abbrev pub zero_float : Float
zero_float = fin false 0 (pos 0)

-- ---- b, the least whole number with 2^b at least the span, from -60 to 60. It is counted from -61 on: k is b + 61
-- 2^(k-61)
abbrev pub two_to : ℕ → Float
two_to k = fin false 1 (minus k 61)

-- the first of k, k+1, .. with 2^(k-61) at least x, and what comes behind so many where there is none
abbrev pub least_from : ℕ → ℕ → Float → ℕ
least_from zero k x = k
least_from (suc left) k x = pick (le x (two_to k)) k (least_from left (suc k) x)

-- 1 to 121 for b from -60 to 60; 0 for any b below them, and 122 for any above and for what is no number
unfoldable pub power_of : Float → ℕ
power_of x = least_from 122 0 x

-- the larger of two numbers
abbrev pub larger : Float → Float → Float
larger x y = pick (lt x y) y x

-- ---- a range
module _ (min max : Float) where
  -- the difference, rounded once
  unfoldable pub span_of : Float
  span_of = sub binary64 max min

  -- two binary64 numbers, both finite, min below max, the span finite, and b from -60 to 60
  unfoldable pub good_range : Bool
  good_range =
      (fits binary64 min && fits binary64 max)
      && (finite min && (finite max && (lt min max
      && (finite span_of && (nat_le 1 (power_of span_of) && nat_le (power_of span_of) 121)))))

  -- ---- for codes of L bytes
  module _ (L : ℕ) where
    -- 2^(8L-1-b)
    unfoldable pub scale_in : Float
    scale_in = fin false 1 (minus (8 * L + 60) (power_of span_of))

    -- the size of a step
    unfoldable pub step_in : Float
    step_in = div binary64 one scale_in

    -- where min<0<max: scale·min less its floor
    unfoldable pub offset_in : Float
    offset_in =
        pick (lt min zero_float && lt zero_float max)
        (sub binary64 (mul binary64 scale_in min) (floor_of (mul binary64 scale_in min))) zero_float

    -- the floor of scale·span + offset, which is not below 0
    unfoldable pub top_in : ℕ
    top_in = to_unsigned 64 (add binary64 (mul binary64 scale_in span_of) offset_in)

    -- the nearest binary64 to y, less the offset, in steps above min
    unfoldable pub value_in : ℕ → Float
    value_in y = add binary64 (mul binary64 step_in (sub binary64 (of_int binary64 (pos y)) offset_in)) min

    -- the larger of a step and 8·2^-52·span
    unfoldable pub epsilon_in : Float
    epsilon_in = larger step_in (mul binary64 (mul binary64 span_of (fin false 1 (negsuc 51))) (fin false 1 (pos 3)))

    -- what a code that is no special reads as: a value that is not finite, a y above the top code, and a value below
    -- min less epsilon are out of range
    unfoldable pub number_in : ℕ → DecodedImapb
    number_in y =
        pick (not (finite (value_in y))) (OutOfRange (value_in y))
        (pick (nat_lt top_in y) (OutOfRange (value_in y))
        (pick (lt (value_in y) (sub binary64 min epsilon_in)) (OutOfRange (value_in y))
        (Value (value_in y))))

    abbrev pub reading_in : ℕ → DecodedImapb
    reading_in y = unless_special L y (number_in y)
