use mathlib.Core.Path.{◌≡◌}
use Rattle.plan.specs.Tally.{bits_met, least_met}
use Rattle.plan.proofs.check.tally_of.Given as goal

abbrev pub invariant-loop-value : goal.invariant-loop-value
invariant-loop-value l = (l.bits ≡ bits_met l.correlations l.value-index) × (l.zeros ≡ least_met l.correlations l.value-index)
