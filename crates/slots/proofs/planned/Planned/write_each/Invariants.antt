use Rattle.slots.proofs.AllSlots.{Last}
use Rattle.slots.proofs.planned.Planned.write_each.Given as goal

abbrev pub invariant-loop-value : goal.invariant-loop-value
invariant-loop-value l = Last l.fn.self.correlations.now l.fn.from l.self.plan.clen l.at l.initial.out l.value-index l.out l.next
