-- `marks::changed` meets its contract.
use Rattle.std.proofs.Common.{rules, ◌≡◌, ap, not, ◌||◌, ◌∙◌, ◌-◌, length, drop, take}
use Rattle.std.proofs.lemmas.List.{take_min, drop_min, take_rest}
use Rattle.std.proofs.lemmas.Iterator.{YieldsList-from_slice}
use Rattle.std.proofs.lemmas.Iterator.Consumers.{fold_from_yields_List}
use borrow.Author.Tests.{tests}
use Rattle.text.specs.Marks.{unmarked}
use Rattle.text.proofs.Marked.{looked}
use Rattle.text.proofs.marks.changed.Goals as goal

pub returns : goal.returns
returns g c =
    let a = c.args in
    let eq = g.T.PartialEq.eq in
    let mark = g.T.Marked.MARK in
    let front = take c.within.result a.lent.now in
    let part = take (length front - c.within-2.result) (drop c.within-2.result front) in
    let same : part ≡ drop a.from (take a.count a.lent.now) =
    take_rest front c.within-2.result
    ∙ ap (λ n. drop n front) c.within-2.ensures.value ∙ drop_min a.from front
    ∙ ap (λ l. drop a.from l) (ap (λ n. take n a.lent.now) c.within.ensures.value ∙ take_min a.count a.lent.now)
    in
    fold_from_yields_List _ (λ found entry. found || not (eq entry mark)) _ _ c.fold.ensures.ran (YieldsList-from_slice part cc)
    (λ found x b q k. search (rules, tests))
    ∙ looked eq mark part
    ∙ ap (λ l. unmarked eq mark l) same
