-- `GoodParams::mapping` meets its contract: the sum whose whole part is the top code is below 2^64.
use lib.Ieee.{of_bits}
use Rattle.ranges.specs.Range.{span_of, step_in, top_in}
use Rattle.ranges.proofs.Params.{good}
use Rattle.ranges.proofs.Top.{sum-small}
use Rattle.ranges.proofs.range.GoodParams.mapping.Goals as goal

pub truncating_f64_to_u64-requires-clause-lower_bound : goal.truncating_f64_to_u64-requires-clause-lower_bound
unfolding span_of
truncating_f64_to_u64-requires-clause-lower_bound c =
    let g = c.args.self in
    let both = rw (← c.offset-offset.ensures, ← c.scale-scale.ensures) at (sum-small g.min g.max (good g) g.length.bytes g.length.least g.length.most) in
    both.0

pub truncating_f64_to_u64-requires-clause-upper_bound : goal.truncating_f64_to_u64-requires-clause-upper_bound
unfolding span_of
truncating_f64_to_u64-requires-clause-upper_bound c =
    let g = c.args.self in
    let both = rw (← c.offset-offset.ensures, ← c.scale-scale.ensures) at (sum-small g.min g.max (good g) g.length.bytes g.length.least g.length.most) in
    both.1

pub returns : goal.returns
unfolding span_of step_in top_in of_bits
returns c =
    rw (c.truncating_f64_to_u64.ensures, c.offset-offset.ensures, c.scale-scale.ensures)
