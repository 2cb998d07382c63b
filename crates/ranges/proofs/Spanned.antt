-- What a good range tells of its span, in units of 2^-1074.
-- Assumes nothing.
use Rattle.std.proofs.Common.{ℕ, ◌+◌, ◌^◌, ◌<◌, ◌≤◌, false}
use lib.Ieee.{Float, binary64}
use Rattle.imapb.proofs.Units.{Counts}
use Rattle.ranges.specs.Range.{span_of, power_of}

-- b + 61 lies from 1 to 121, and the span above 2^(b-1) and up to 2^b
pub record Spanned (min max : Float) : Type 0 where
  pub units : ℕ
  pub counts : Counts binary64 (span_of min max) false units
  pub least : 1 ≤ power_of (span_of min max)
  pub most : power_of (span_of min max) ≤ 121
  pub over : 2 ^ (1012 + power_of (span_of min max)) < units
  pub upto : units ≤ 2 ^ (1013 + power_of (span_of min max))
