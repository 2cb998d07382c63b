-- `triangle::triangle_slot` meets its contract.
use native.Mathlib.Omega.{arith}
use borrow.Author.Tests.{lt-ltb}
use Rattle.layout.specs.Triangle.{slot_of}
use Rattle.layout.proofs.RowByRow.{square-fits, product_le}
use Rattle.layout.proofs.triangle.triangle_slot.Goals as goal

pub overflow_mul-result-2 : goal.overflow_mul-result-2
overflow_mul-result-2 c =
    let a = c.args in
    omega (arith, product_le a.n a.i (omega arith), square-fits a.n (omega arith))

pub returns : goal.returns
unfolding slot_of
returns c = let a = c.args in rw (lt-ltb a.i a.j (omega arith), lt-ltb a.j a.n (omega arith))
