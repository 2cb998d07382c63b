use Rattle.text.proofs.Spelled.{Spelled}
use Rattle.text.proofs.string.byte_string.Given as goal

abbrev pub invariant-loop-count : goal.invariant-loop-count
invariant-loop-count l = Spelled l.at l.initial.line l.line l.next l.count
