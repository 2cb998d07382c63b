-- `Planned::write_sent_each` meets its contract: each turn writes eight slots' codes behind those before them, and
-- their byte of the Bit Vector.
use native.Mathlib.Omega.{arith}
use Rattle.slots.proofs.Sparse.{sent-none, sent-room, sent-more, sent-done}
use Rattle.slots.proofs.planned.Planned.write_sent_each.Goals as goal

pub loop-i-init : goal.loop-i-init
loop-i-init c = sent-none c.requires.begun c.requires.behind c.requires.within

pub write_group-group-requires : goal.write_group-group-requires
write_group-group-requires c =
    (omega arith, sent-room c.loop-i.invariant c.loop-i-test.true)

pub loop-i-preserved : goal.loop-i-preserved
loop-i-preserved c =
    sent-more c.loop-i.invariant c.loop-i-test.true c.write_group-group.ensures.2 c.write_group-group.ensures.1 c.write_group-group.ensures.0

pub returns : goal.returns
returns c = sent-done c.loop-i.invariant c.loop-i-test.false
