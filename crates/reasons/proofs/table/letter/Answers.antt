-- `table::letter` meets its contract, by the table's rule.
use mathlib.Core.Path.{◌∙◌}
use native.Mathlib.Omega.{arith}
use Rattle.text.proofs.Forms.{tabled-is}
use Rattle.reasons.specs.Sentences.{sentences}
use Rattle.reasons.proofs.table.letter.Goals as goal

pub returns : goal.returns
unfolding sentences
returns c = c.letter_in.ensures ∙ tabled-is 0x7c 96 sentences (omega arith) (omega arith) c.args.sentence c.args.i
