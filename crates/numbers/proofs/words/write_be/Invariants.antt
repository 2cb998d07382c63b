use lib.ListN.{length}
use Rattle.numbers.proofs.Digits.{Back}
use Rattle.numbers.proofs.words.write_be.Given as goal

abbrev pub invariant-loop-i : goal.invariant-loop-i
invariant-loop-i l = Back 256 0 (length l.fn.part) l.initial.left l.initial.part l.i l.left l.part
