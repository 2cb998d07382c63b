use Rattle.slots.proofs.AllSlots.{First}
use Rattle.slots.proofs.planned.Planned.write_words.Given as goal

abbrev pub invariant-loop-value : goal.invariant-loop-value
invariant-loop-value l = First l.fn.self.correlations.now l.fn.count l.self.plan.clen l.self.plan.codes l.initial.out l.value-index l.out l.next
