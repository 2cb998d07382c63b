-- `usable::is_deviation` meets its contract.
use mathlib.Core.Path.{sym, ◌∙◌}
use native.Mathlib.Omega.{arith}
use borrow.Author.Tests.{lt-ltb}
use Rattle.matrix.proofs.Deviation.{deviation-in, deviation-past}
use Rattle.matrix.proofs.usable.is_deviation.Goals as goal

pub returns-then-bits-lt-INFINITY : goal.returns-then-bits-lt-INFINITY
returns-then-bits-lt-INFINITY c = lt-ltb c.args.bits 0x7ff0000000000000 (omega arith) ∙ sym (deviation-in c.args.bits (omega arith))

pub returns-else-bits-lt-INFINITY : goal.returns-else-bits-lt-INFINITY
returns-else-bits-lt-INFINITY c = deviation-past c.args.bits (omega arith) (omega arith)
