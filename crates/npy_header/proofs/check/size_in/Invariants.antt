use Rattle.npy_header.proofs.Headers.{Sizing}
use Rattle.npy_header.proofs.check.size_in.Given as goal

abbrev pub invariant-loop-i : goal.invariant-loop-i
invariant-loop-i l = Sizing l.file l.n l.i
