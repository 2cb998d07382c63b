-- `GoodParams::scale` meets its contract: a field with no digits behind it is a power of two.
use Rattle.std.proofs.Common.{◌+◌, ◌*◌, arith}
use lib.Ieee.{is_nan}
use lib.Ieee.Bits.{nan_bits_is}
use Rattle.ranges.specs.Range.{power_of, span_of, scale_in}
use Rattle.ranges.proofs.Params.{good}
use Rattle.ranges.proofs.Power.{spanned}
use Rattle.ranges.proofs.Field.{power-of}
use Rattle.ranges.proofs.range.GoodParams.scale.Goals as goal

pub overflow_sub-field : goal.overflow_sub-field
overflow_sub-field c = omega (arith, c.args.self.length.most, (spanned (good c.args.self)).most)

pub returns : goal.returns
unfolding scale_in
returns c =
    let g = c.args.self in
    let n = g.length in
    let s = spanned (good g) in
    power-of _ (8 * n.bytes + 60) (power_of (span_of g.min g.max)) (omega (arith, n.least, s.most)) (omega (arith, n.most, s.least)) (omega (arith, n.least, n.most, s.most)) (omega (arith, n.least, n.most, s.most))

pub float_from_bits-result : goal.float_from_bits-result
unfolding scale_in is_nan
float_from_bits-result c = rw (nan_bits_is, returns c) tt
