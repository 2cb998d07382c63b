-- `judge::judge` meets its contract: a) to g), and then h) to k).
use Rattle.std.proofs.lemmas.Result.{err_from_is_err_and}
use Rattle.elements.proofs.Opened.{opened-placed}
use Rattle.rules.proofs.Judged.{judged-early, judged-later, judged-pack}
use Rattle.rules.proofs.judge.judge.Goals as goal

pub returns-in_err-places : goal.returns-in_err-places
returns-in_err-places c =
    let e = err_from_is_err_and c.from_residual.result c.from_residual.ensures.1 in
    rw (e.1, e.2) (judged-early c.args.bytes.now c.in_err-places.ensures)

pub invariant_of-opened : goal.invariant_of-opened
invariant_of-opened c = record { placed = opened-placed c.args.bytes.now c.in_ok-places.ensures }

pub returns-in_err-elements_whole : goal.returns-in_err-elements_whole
returns-in_err-elements_whole c =
    let e = err_from_is_err_and c.from_residual-in_err-elements_whole.result c.from_residual-in_err-elements_whole.ensures.1 in
    rw (e.1, e.2) (judged-later c.args.bytes.now c.in_ok-places.ensures c.in_err-elements_whole.ensures)

pub returns : goal.returns
returns c = judged-pack c.args.bytes.now c.in_ok-places.ensures c.in_ok-elements_whole.ensures
