use Prim.Native.Nat.{◌-◌}
use lib.ListN.{length}
use Rattle.sets.proofs.Next.{Seeks}
use Rattle.sets.proofs.pack.next_pack.Given as goal

abbrev pub invariant-loop-item : goal.invariant-loop-item
invariant-loop-item l = Seeks l.set l.initial.seen l.initial.at l.seen l.at

abbrev pub decreases-loop-item : goal.decreases-loop-item
decreases-loop-item l = length l.set - l.at
