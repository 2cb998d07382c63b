-- `forms::letter` meets its contract, by the table's rule.
use mathlib.Core.Path.{◌∙◌}
use native.Mathlib.Omega.{arith}
use Rattle.replies.specs.Forms.{forms}
use Rattle.text.proofs.Forms.{tabled-is}
use Rattle.replies.proofs.forms.letter.Goals as goal

pub returns : goal.returns
unfolding forms
returns c = c.letter_in.ensures ∙ tabled-is 0x2e 24 forms (omega arith) (omega arith) c.args.form c.args.i
