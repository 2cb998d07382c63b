-- `size::check_matrix_size_fits` meets its contract.
use Prim.Native.Nat.{◌≤◌}
use native.Mathlib.Nat.{mul-le-mul}
use native.Mathlib.Omega.{arith}
use Rattle.layout.specs.Size.{max_slots}
use Rattle.layout.proofs.RowByRow.{few-slots}
use Rattle.layout.proofs.size.check_matrix_size_fits.Goals as goal
use Rattle.layout.proofs.size.check_matrix_size_fits.Goals.{After-corr_slots-slots}

-- the bound that the products need
few : (c : After-corr_slots-slots) → c.corr_slots-slots.result ≤ max_slots
few c =
    rw c.corr_slots-slots.ensures
    (few-slots c.args.n (omega arith))

pub overflow_add-slots : goal.overflow_add-slots
overflow_add-slots c = omega (arith, few (goal.at.overflow_add-slots c).After-corr_slots-slots)

pub overflow_mul-slots : goal.overflow_mul-slots
overflow_mul-slots c =
    let s = (goal.at.overflow_mul-slots c).After-corr_slots-slots in let k = s.args.control in
    omega (arith, few s, mul-le-mul {n₁ = s.corr_slots-slots.result} {m₁ = k.clen} {n₂ = max_slots} {m₂ = 255} (few s) (omega arith))
