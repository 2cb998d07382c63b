-- The floor of a number.
use Rattle.std.specs.Prelude.{◌≡◌, ℕ, ◌+◌, ◌-◌, ◌*◌, ◌/◌, ◌^◌, ◌<◌, true, false, T, ℤ, pos, Float}
use Rattle.std.specs.Float.{nan, inf, fin, binary64}
use Rattle.std.specs.Float.Ieee.{up, down, neg, of_int, fits}

-- the least whole number that a / c does not exceed
abbrev pub ceiling : ℕ → ℕ → ℕ
ceiling a c = (a + (c - 1)) / c

-- the largest whole number that is not above x
unfoldable pub floor_of : Float → Float
floor_of nan = nan
floor_of (inf s) = inf s
floor_of (fin false m e) = of_int binary64 (pos (m * up e / down e))
floor_of (fin true m e) = neg (of_int binary64 (pos (ceiling (m * up e) (down e))))

-- a binary64 that is not above 0, -0 with its sign, and above -2^64
pub record Falls (x : Float) : Type 0 where
  pub size : ℕ
  pub exponent : ℤ
  pub is : x ≡ fin true size exponent
  pub held : T (fits binary64 x)
  pub few : size * up exponent < 2 ^ 64 * down exponent
