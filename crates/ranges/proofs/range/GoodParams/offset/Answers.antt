-- `GoodParams::offset` meets its contract: what is floored falls.
use lib.Ieee.{of_bits}
use Rattle.ranges.specs.Range.{offset_in}
use Rattle.ranges.proofs.Offset.{scaled-falls}
use Rattle.ranges.proofs.Params.{good}
use Rattle.ranges.proofs.range.GoodParams.offset.Goals as goal

pub floor_of-requires : goal.floor_of-requires
unfolding of_bits
floor_of-requires c =
    let g = c.args.self in
    rw c.requires (scaled-falls g.min g.max (good g) g.length.bytes g.length.least g.length.most c.if-self.true c.if-self-2.true)

pub returns-then-self-2 : goal.returns-then-self-2
unfolding offset_in of_bits
returns-then-self-2 c =
    rw (c.if-self.true, c.if-self-2.true, c.floor_of.ensures, c.requires)

pub returns-else-self-2 : goal.returns-else-self-2
unfolding offset_in of_bits
returns-else-self-2 c = rw (c.if-self.true, c.if-self-2.false)

pub returns-else-self : goal.returns-else-self
unfolding offset_in of_bits
returns-else-self c = rw c.if-self.false
