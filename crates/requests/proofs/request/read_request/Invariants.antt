use Rattle.requests.proofs.Asked.{Reading}
use Rattle.requests.proofs.request.read_request.Given as goal

abbrev pub invariant-loop-i : goal.invariant-loop-i
invariant-loop-i l = Reading l.initial.line l.initial.words l.form l.line l.words l.request l.at l.i
