-- What params that are good say of their range.
-- Assumes nothing.
use Rattle.std.proofs.Common.{T}
use Rattle.ranges.specs.Range.{good_range}
use Rattle.ranges.specs.declared.range.GoodParams.{GoodParams}

pub good : (g : GoodParams) → T (good_range g.min g.max)
good g = rw g.good tt
