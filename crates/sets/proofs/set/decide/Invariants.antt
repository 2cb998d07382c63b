use Prim.Native.Nat.{◌-◌}
use lib.ListN.{length}
use Rattle.sets.proofs.Walk.{Walk}
use Rattle.sets.proofs.set.decide.Given as goal

abbrev pub invariant-loop-at : goal.invariant-loop-at
invariant-loop-at l = Walk l.set l.room l.packs l.seen l.at

abbrev pub decreases-loop-at : goal.decreases-loop-at
decreases-loop-at l = length l.set - l.at
