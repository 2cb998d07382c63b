-- `head::vector_length` meets its contract.
use native.Mathlib.Omega.{arith}
use Rattle.layout.specs.Triangle.{slots_of}
use Rattle.layout.proofs.RowByRow.{square-fits}
use Rattle.elements.proofs.head.vector_length.Goals as goal

pub overflow_add-result : goal.overflow_add-result
unfolding slots_of
overflow_add-result c = omega (arith, c.corr_slots.ensures, square-fits c.args.head.n (omega arith))
