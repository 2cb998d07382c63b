-- What holds over every good range, for codes of 1 to 8 bytes.
use Rattle.std.specs.Prelude.{◌≡◌, ℕ, ◌+◌, ◌-◌, ◌*◌, ◌/◌, ◌^◌, ◌<◌, ◌≤◌, false, T, nat_le, Float}
use Rattle.std.specs.Float.{fin}
use Rattle.std.specs.Float.Ieee.{minus, le}
use Rattle.std.specs.Float.Ieee.Scale.{finite}
use Rattle.answers.specs.Table.{pick}
use Rattle.imapb.specs.declared.decode.DecodedImapb.TheVariants.{Value, OutOfRange}
use Rattle.imapb.specs.Mapping.{one}
use Rattle.ranges.specs.Range.{zero_float, power_of, span_of, scale_in, step_in, offset_in, top_in, value_in, number_in}

pub record Shared (min max : Float) (L : ℕ) : Type 0 where
  -- the scale is a power of two, and the step, its inverse, is exact
  pub scale : scale_in min max L ≡ fin false 1 (minus (8 * L + 60) (power_of (span_of min max)))
  pub step : step_in min max L ≡ fin false 1 (minus (power_of (span_of min max)) (8 * L + 60))
  -- the offset lies from 0 to 1
  pub offset-least : T (le zero_float (offset_in min max L))
  pub offset-most : T (le (offset_in min max L) one)
  -- the top code fits L bytes, and every code whose top two bits are set lies above it
  pub top-most : top_in min max L ≤ 5 * 2 ^ (8 * L - 3)
  pub specials-above : (y : ℕ) → y / 2 ^ (8 * L - 2) ≡ 0b11 → top_in min max L < y
  -- a code that is no special is a value exactly when it is at most the top code
  pub number : (y : ℕ) → y < 2 ^ 64
      → number_in min max L y ≡ pick (nat_le y (top_in min max L)) (Value (value_in min max L y)) (OutOfRange (value_in min max L y))
  -- what a code reads as is finite, be it a value or out of range
  pub value-finite : (y : ℕ) → y < 2 ^ 64 → T (finite (value_in min max L y))
