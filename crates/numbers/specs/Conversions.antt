-- Conversions on bit patterns, by the logic's account of IEEE 754 and document 01's rule for NaN.
use Rattle.std.specs.Prelude.{ℕ, ◌+◌, ◌*◌, ◌/◌, ◌%◌, ◌^◌, ◌<◌, Bool, false, ◌&&◌, cond, pos, leb, Float, None, Some, Option}
use Rattle.std.specs.Float.{nan, inf, fin, Format, binary64}
use Rattle.std.specs.Float.Ieee.{hid, ones, top, up, down, round, of_int, of_bits, to_bits, nan_bits, to_unsigned, le, lt}
use Rattle.std.specs.Float.Ieee.Exact.{HasValue}
use Rattle.answers.specs.Table.{pick}

-- the value of the format nearest to x, a tie to the even one
unfoldable pub nearest : Format → Float → Float
nearest f nan = nan
nearest f (inf s) = inf s
nearest f (fin s m e) = round f s (m * up e) (down e)

-- document 01's NaN: the sign s, t as the top 23 fraction bits with the quiet bit set, and 0 below them
abbrev pub quiet_nan : Format → Bool → ℕ → ℕ
quiet_nan f s t = cond s (top f) 0 + ones f * hid f + (2 ^ 22 + t % 2 ^ 22) * (hid f / 2 ^ 23)

-- the top 23 fraction bits
abbrev pub top_fraction : Format → ℕ → ℕ
top_fraction f b = b % hid f / (hid f / 2 ^ 23)

-- a bit pattern of one format as one of the other
unfoldable pub converted : Format → Format → ℕ → ℕ
unfolding nearest
converted from to b =
    pick (nan_bits from b) (quiet_nan to (leb (top from) b) (top_fraction from b)) (to_bits to (nearest to (of_bits from b)))

-- the bits of the binary64 nearest to a whole number
unfoldable pub nearest_bits : ℕ → ℕ
nearest_bits n = to_bits binary64 (of_int binary64 (pos n))

-- the whole part of a number from 0 to below 2^64; of any other, and of NaN, none
unfoldable pub whole_part : ℕ → Option ℕ
whole_part b =
    let x = of_bits binary64 b in
    pick (le (fin false 0 (pos 0)) x && lt x (fin false 1 (pos 64))) (Some (to_unsigned 64 x)) None

-- x and y are one number, size / over, with one sign
pub record SameNumber (x y : Float) : Type 0 where
  pub sign : Bool
  pub size : ℕ
  pub over : ℕ
  pub some : 0 < over
  pub first : HasValue x sign size over
  pub second : HasValue y sign size over
