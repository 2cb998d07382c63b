use Rattle.answers.specs.Lent.{tab}
use Rattle.answers.proofs.Lent.{Front}
use Rattle.requests.specs.States.{state_at}
use Rattle.requests.proofs.states.states_of.Given as goal

abbrev pub invariant-loop-i : goal.invariant-loop-i
invariant-loop-i l = Front (tab l.count (λ k. state_at l.words k)) l.initial.states l.i l.states
