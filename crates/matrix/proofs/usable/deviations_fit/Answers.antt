-- `usable::deviations_fit` meets its contract: the chain makes the test of each.
use mathlib.Core.Path.{sym, ◌∙◌}
use native.Mathlib.Omega.{arith}
use borrow.Author.Rules.{rules}
use borrow.Author.Tests.{lt-leb, tests}
use lib.ListN.{length, take}
use Rattle.std.proofs.lemmas.Iterator.{YieldsList-from_slice}
use Rattle.std.proofs.lemmas.Iterator.Search.{all_from_yields_List}
use Rattle.matrix.specs.Usable.{is_deviation}
use Rattle.matrix.proofs.FirstAll.{too_few, first-chain}
use Rattle.matrix.proofs.usable.deviations_fit.Goals as goal

pub returns-then-count-deviations : goal.returns-then-count-deviations
returns-then-count-deviations c =
    let a = c.args in
    all_from_yields_List is_deviation _ _ _ c.all.ensures.ran (YieldsList-from_slice (take a.count a.deviations.now) cc) (λ x b q k. search (rules, tests))
    ∙ first-chain is_deviation a.count a.deviations.now (omega arith)

pub returns-else-count-deviations : goal.returns-else-count-deviations
returns-else-count-deviations c =
    let a = c.args in
    lt-leb a.count (length a.deviations.now) (omega arith) ∙ sym (too_few is_deviation a.count a.deviations.now (omega arith))
