-- `turns::rows_in_turn` meets its contract: the rows before have passed.
use Rattle.std.proofs.lemmas.Result.{err_from_is_err_and}
use Rattle.rules.proofs.Rows.{row-stops}
use Rattle.rules.proofs.turns.rows_in_turn.Goals as goal

pub returns-in_err-deviation_in : goal.returns-in_err-deviation_in
returns-in_err-deviation_in c =
    let a = c.args in
    let p = err_from_is_err_and c.from_residual.result c.from_residual.ensures.1 in
    rw (p.1, p.2)
    (row-stops a.bytes.now a.at a.control a.form c.loop-row.row c.loop-row.invariant.1 c.in_err-deviation_in.field-0.0 (rw c.loop-row.invariant.0 at c.in_err-deviation_in.ensures) a.count c.loop-row-test.true)
