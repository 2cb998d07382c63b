-- `check::check_each` meets its contract. The invariant: which rules are left, and how many zeros were met.
use Prim.Native.Nat.{◌+◌}
use native.Mathlib.Omega.{arith}
use Rattle.plan.proofs.Checked.{zeros-le, Passed, passed-found}
use Rattle.plan.proofs.check.check_each.Goals as goal
use Rattle.plan.proofs.check.check_each.Goals.{In_ok-zeros}

-- one turn more
turn : (c : In_ok-zeros) → Passed c.args.correlations.now (c.loop-value.zeros + c.in_ok-zeros.field-0) (c.loop-value.value-index + 1)
turn c =
    passed-found c.loop-value.invariant (omega arith) c.in_ok-zeros.ensures

pub overflow_add-zeros : goal.overflow_add-zeros
overflow_add-zeros c =
    omega (arith, (turn c).within, (turn c).count, zeros-le c.args.correlations.now (c.loop-value.value-index + 1))
