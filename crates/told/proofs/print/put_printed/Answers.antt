-- `print::put_printed` meets its contract.
use mathlib.Core.Path.{sym, ◌∙◌}
use Rattle.text.proofs.Adding.{adds_then}
use Rattle.told.specs.Printed.{printed}
use Rattle.told.proofs.print.put_printed.Goals as goal

pub returns-then-is_too_big : goal.returns-then-is_too_big
unfolding printed
returns-then-is_too_big c =
    rw (sym c.is_too_big.ensures ∙ c.if-is_too_big.true) c.text.ensures

pub returns-else-is_too_big : goal.returns-else-is_too_big
unfolding printed
returns-else-is_too_big c =
    rw (sym c.is_too_big.ensures ∙ c.if-is_too_big.false) (adds_then c.put_account.ensures c.byte.ensures)
