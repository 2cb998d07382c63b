use Rattle.numbers.proofs.Digits.{Back}
use Rattle.numbers.proofs.ber_oid.write_ber_oid.Given as goal

abbrev pub invariant-loop-i : goal.invariant-loop-i
invariant-loop-i l = Back 128 1 l.last l.initial.left l.initial.out l.i l.left l.out
