use Prim.Native.Nat.{◌-◌}
use lib.ListN.{length}
use Rattle.sets.proofs.Stores.{Stored}
use Rattle.sets.proofs.set.store_tags.Given as goal

abbrev pub invariant-loop-item : goal.invariant-loop-item
invariant-loop-item l = Stored l.set l.initial.tags l.seen l.at l.tags

abbrev pub decreases-loop-item : goal.decreases-loop-item
decreases-loop-item l = length l.set - l.at
