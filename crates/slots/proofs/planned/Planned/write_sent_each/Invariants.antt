use Rattle.slots.proofs.Sparse.{Sent}
use Rattle.slots.proofs.planned.Planned.write_sent_each.Given as goal

abbrev pub invariant-loop-i : goal.invariant-loop-i
invariant-loop-i l = Sent l.self.correlations.now l.self.plan.clen l.self.plan.vector l.initial.next l.fn.from.bytes l.initial.out l.i l.out l.next
