-- `GoodParams::power_field` meets its contract: the span is a number, and its units tell its bits.
use Rattle.std.proofs.Common.{◌≡◌, ◌+◌, ◌/◌, ◌^◌, false, not, T, arith}
use lib.Ieee.{Float, binary64, is_nan, to_bits}
use Rattle.imapb.proofs.Units.{by_value}
use Rattle.ranges.specs.Range.{span_of, power_of}
use Rattle.ranges.proofs.Params.{good}
use Rattle.ranges.proofs.Power.{span_fits, spanned}
use Rattle.ranges.proofs.Field.{field_of}
use Rattle.ranges.proofs.range.GoodParams.power_field.Goals as goal
use Rattle.ranges.proofs.range.GoodParams.power_field.Goals.{Start}

field : (c : Start) → (to_bits binary64 (span_of c.args.self.min c.args.self.max) + 0xfffffffffffff) / 0x10000000000000 ≡ power_of (span_of c.args.self.min c.args.self.max) + 962
field c = let s = spanned (good c.args.self) in field_of (span_of c.args.self.min c.args.self.max) s.units _ (span_fits c.args.self.min c.args.self.max) s.counts s.over s.upto

pub float_to_bits-result : goal.float_to_bits-result
unfolding span_of is_nan
float_to_bits-result c = let s = spanned (good c.args.self) in by_value (λ (x : Float). T (not (is_nan x))) false s.units (2 ^ 1074) (λ m e k. tt) (span_of c.args.self.min c.args.self.max) s.counts

pub overflow_add-result : goal.overflow_add-result
unfolding span_of
overflow_add-result c = omega (arith, field (goal.at.overflow_add-result c).Start, (spanned (good c.args.self)).most)

pub returns : goal.returns
unfolding span_of
returns c = field (goal.at.returns c).Start
