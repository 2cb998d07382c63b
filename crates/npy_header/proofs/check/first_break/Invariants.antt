use Rattle.npy_header.proofs.Headers.{Held}
use Rattle.npy_header.proofs.check.first_break.Given as goal

abbrev pub invariant-loop-i : goal.invariant-loop-i
invariant-loop-i l = Held l.header l.file l.i
