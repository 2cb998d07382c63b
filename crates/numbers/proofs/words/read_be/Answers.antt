-- `words::read_be` meets its contract.
use mathlib.Core.Path.{◌∙◌}
use Rattle.std.proofs.Common.{rules}
use Rattle.std.proofs.lemmas.Iterator.{YieldsList-from_slice}
use Rattle.std.proofs.lemmas.Iterator.Consumers.{fold_from_yields_List}
use Rattle.numbers.specs.Words.{more}
use Rattle.numbers.proofs.Read.{read}
use Rattle.numbers.proofs.words.read_be.Goals as goal

pub returns : goal.returns
returns c =
    let bytes = c.args.bytes.now in
    fold_from_yields_List _ more _ _ c.fold.ensures.ran (YieldsList-from_slice bytes cc) (λ a x b q k. search rules) ∙ read bytes
