-- `words::read_le` meets its contract.
use mathlib.Core.Path.{◌∙◌}
use Rattle.std.proofs.Common.{rules}
use Rattle.std.proofs.lemmas.Iterator.Adapters.{YieldsList-from_rev_slice}
use Rattle.std.proofs.lemmas.Iterator.Consumers.{fold_from_yields_List}
use Rattle.numbers.specs.Words.{more}
use Rattle.numbers.proofs.Read.{read-back}
use Rattle.numbers.proofs.words.read_le.Goals as goal

pub returns : goal.returns
returns c =
    let bytes = c.args.bytes.now in
    fold_from_yields_List _ more _ _ c.fold.ensures.ran (YieldsList-from_rev_slice bytes cc) (λ a x b q k. search rules) ∙ read-back bytes
