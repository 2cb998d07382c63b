use Prim.Native.Nat.{◌-◌, ◌/◌}
use lib.ListN.{length}
use Rattle.slots.proofs.SentWords.{SentWords}
use Rattle.slots.proofs.planned.Planned.write_sent_words.Given as goal

abbrev pub invariant-loop-next : goal.invariant-loop-next
invariant-loop-next l = SentWords l.self.correlations.now l.plan.clen l.plan.vector l.plan.codes l.plan.end l.initial.out l.i l.out l.next

abbrev pub decreases-loop-next : goal.decreases-loop-next
decreases-loop-next l = length l.self.correlations.now / 8 - l.i
