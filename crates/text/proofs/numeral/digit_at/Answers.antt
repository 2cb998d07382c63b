-- `numeral::digit_at` meets its contract.
use mathlib.Core.Path.{sym, ◌∙◌}
use native.Mathlib.Omega.{arith}
use Rattle.text.proofs.Line.{none-past}
use Rattle.text.proofs.numeral.digit_at.Goals as goal

pub returns-in_err-get : goal.returns-in_err-get
returns-in_err-get c = let a = c.args in c.from_residual.ensures ∙ sym (none-past a.line.now a.at (omega (arith, c.in_err-get.ensures.lookup)))
