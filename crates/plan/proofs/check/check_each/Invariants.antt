use Rattle.plan.proofs.Checked.{Passed}
use Rattle.plan.proofs.check.check_each.Given as goal

abbrev pub invariant-loop-value : goal.invariant-loop-value
invariant-loop-value l = Passed l.correlations l.zeros l.value-index
