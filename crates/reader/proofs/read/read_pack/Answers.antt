-- `read::read_pack` meets its contract: the rules and the slots, and then the deviations.
use Rattle.std.proofs.lemmas.Result.{err_from_is_err_and}
use Rattle.reader.proofs.Whole.{kept, deviations-there, stored}
use Rattle.reader.proofs.read.read_pack.Goals as goal

pub fill_deviations-requires : goal.fill_deviations-requires
fill_deviations-requires c =
    let a = c.args in
    let l = c.in_ok-decided.ensures in
    rw c.pack_of-pack.ensures
    (deviations-there a.range a.bytes.now a.deviations.now a.correlations.now a.states.now l.1 l.2 l.0)

pub returns-in_err-decided : goal.returns-in_err-decided
returns-in_err-decided c =
    let a = c.args in
    let l = c.in_err-decided.ensures in
    let e = err_from_is_err_and c.from_residual.result c.from_residual.ensures.1 in
    rw (e.1, e.2) (kept a.range a.bytes.now a.deviations.now a.correlations.now a.states.now l.1 l.2 c.in_err-decided.field-0.0 l.0)

pub returns : goal.returns
returns c =
    let a = c.args in
    let l = c.in_ok-decided.ensures in
    let e = c.pack_of-pack.ensures in
    stored a.range a.bytes.now a.deviations.now a.correlations.now a.states.now l.1 l.2 l.0 e (rw e at c.fill_deviations.ensures)
