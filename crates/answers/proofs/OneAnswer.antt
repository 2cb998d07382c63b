-- No second answer meets the contract of `row_of`.
-- Assumes nothing.
use mathlib.Core.Path.{sym, ◌∙◌}
use Rattle.answers.specs.OneAnswer.{OneResult}
use Rattle.answers.proofs.row.row_of.Reads as row_of

pub row-of-one : OneResult row_of.Learnt
row-of-one κs a r r' s s' p q = p ∙ sym q
