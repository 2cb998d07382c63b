use Rattle.slots.proofs.Sparse.{Eight}
use Rattle.slots.proofs.planned.Planned.write_group.Given as goal

abbrev pub invariant-loop-j : goal.invariant-loop-j
invariant-loop-j l = Eight l.self.correlations.now l.from l.clen l.at l.initial.out l.j l.out l.next l.bits
