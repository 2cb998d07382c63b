use Rattle.std.proofs.Common.{◌≤◌, length}
use Rattle.pace.proofs.coded.of_specials.Given as goal

abbrev pub invariant-loop-k : goal.invariant-loop-k
invariant-loop-k l = l.at ≤ length l.out
