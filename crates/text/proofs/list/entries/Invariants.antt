use Rattle.text.proofs.Entered.{Entered}
use Rattle.text.proofs.list.entries.Given as goal

abbrev pub invariant-loop-place : goal.invariant-loop-place
invariant-loop-place l = Entered l.entry l.line l.at l.initial.list l.list l.next l.place-index
