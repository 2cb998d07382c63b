-- `MatrixFile::check_pairs` meets its contract. The invariant: the pairs of the rows before this one agree.
use mathlib.Core.Path.{◌≡◌, sym}
use native.Mathlib.Omega.{arith}
use Rattle.std.proofs.lemmas.Result.{err_from_is_err_and}
use Rattle.npy.specs.Rules.{row_rules, pair_rules}
use Rattle.answers.proofs.Each.{each-stops}
use Rattle.npy.proofs.entry.MatrixFile.check_pairs.Goals as goal

pub returns-in_err-check_row : goal.returns-in_err-check_row
unfolding pair_rules
returns-in_err-check_row c =
    let a = c.args in
    let e = err_from_is_err_and c.from_residual.result c.from_residual.ensures.1 in
    rw (e.1, e.2) (each-stops (row_rules a.self.now.file.now a.self.now.rows) a.self.now.rows c.loop-i.i c.in_err-check_row.field-0.0 c.loop-i-test.true c.loop-i.invariant c.in_err-check_row.ensures)

pub returns : goal.returns
unfolding pair_rules
returns c =
    let l = c.loop-i in
    let e : l.i ≡ c.args.self.now.rows = omega arith in
    sym (rw e at l.invariant)
