-- `range::check_range` meets its contract: a range is good by its three tests.
use mathlib.Core.Bool.{and-false}
use Rattle.ranges.specs.Range.{span_of}
use Rattle.ranges.proofs.Power.{good-is, below-is, most-is}
use Rattle.ranges.proofs.range.check_range.Goals as goal

pub returns-then-span-2 : goal.returns-then-span-2
unfolding span_of
returns-then-span-2 c =
    let g = c.well_formed in
    rw (good-is, g.0.1, g.1.0.1, ← below-is, ← most-is, c.if-min-max.true, c.if-span.true, c.if-span-2.true)

pub returns-else-span-2 : goal.returns-else-span-2
unfolding span_of
returns-else-span-2 c = rw (good-is, ← most-is, c.if-span-2.false) (simp and-false)

pub returns-else-span : goal.returns-else-span
unfolding span_of
returns-else-span c = rw (good-is, ← below-is, c.if-span.false) (simp and-false)

pub returns-else-min-max : goal.returns-else-min-max
returns-else-min-max c = rw (good-is, c.if-min-max.false) (simp and-false)
