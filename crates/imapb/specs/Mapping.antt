-- ST 1201.5's mapping of a number to a code of L bytes and back, with the roundings that document 01 names.
use Rattle.std.specs.Prelude.{ℕ, ◌-◌, ◌*◌, ◌^◌, Bool, true, false, ◌&&◌, pos, Float}
use Rattle.std.specs.Float.{fin, binary64}
use Rattle.std.specs.Float.Ieee.{add, sub, mul, div, of_int, to_unsigned, le}

abbrev pub power : ℕ → Float
power t = fin false 1 (pos t)

abbrev pub one : Float
one = power 0

abbrev pub minus_one : Float
minus_one = fin true 1 (pos 0)

-- ---- over a range that starts at -shift, with the scale 2^t
-- writing: the sum is rounded once, scaled exactly, and its whole part taken
unfoldable pub code : Float → ℕ → Float → ℕ
code shift t v = to_unsigned 64 (mul binary64 (add binary64 v shift) (power t))

-- reading: the nearest binary64, ties to even, is scaled exactly, and the shift subtracted with one rounding
unfoldable pub value : Float → ℕ → ℕ → Float
value shift t y = sub binary64 (div binary64 (of_int binary64 (pos y)) (power t)) shift

-- ---- the range -1 to 1, for a code of L bytes
abbrev pub scale_of : ℕ → Float
scale_of L = power (8 * L - 2)

-- the code of 1
abbrev pub top_of : ℕ → ℕ
top_of L = 2 ^ (8 * L - 1)

abbrev pub code_of : ℕ → Float → ℕ
code_of L v = code one (8 * L - 2) v

abbrev pub value_of : ℕ → ℕ → Float
value_of L y = value one (8 * L - 2) y

-- no NaN, no infinity, and nothing outside
abbrev pub in_range : Float → Bool
in_range v = le minus_one v && le v one
