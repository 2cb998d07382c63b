-- `check::tally_of` meets its contract.
use mathlib.Core.Path.{◌≡◌}
use Prim.Native.Nat.{◌+◌}
use native.Mathlib.Numerals.{add-one}
use native.Mathlib.Omega.{arith}
use Rattle.plan.specs.Tally.{least_met}
use Rattle.plan.proofs.Raised.{least-le}
use Rattle.plan.proofs.check.tally_of.Goals as goal
use Rattle.plan.proofs.check.tally_of.Goals.{After-least_of-zeros}

-- a turn's count
more : (c : After-least_of-zeros)
    → c.loop-value.zeros + c.least_of-zeros.result ≡ least_met c.args.correlations.now (c.loop-value.value-index + 1)
more c =
    rw (add-one, c.least_of-zeros.ensures, c.raised-high.ensures, c.loop-value.invariant.1)

pub overflow_add-zeros : goal.overflow_add-zeros
overflow_add-zeros c =
    omega (arith, more c, least-le c.args.correlations.now (c.loop-value.value-index + 1))
