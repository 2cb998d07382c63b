use Rattle.std.proofs.Common.{◌≤◌, length}
use Rattle.pace.proofs.coded.of_values.Given as goal

abbrev pub invariant-loop-correlation : goal.invariant-loop-correlation
invariant-loop-correlation l = l.at ≤ length l.out
