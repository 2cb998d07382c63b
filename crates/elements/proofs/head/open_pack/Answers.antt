-- `head::open_pack` meets its contract: rules a) to g) in their order.
use mathlib.Core.Path.{sym, ◌∙◌}
use Rattle.std.proofs.lemmas.Result.{err_from_is_err_and}
use Rattle.layout.proofs.Peek.{fit_is}
use Rattle.elements.proofs.head.open_pack.Goals as goal
use Rattle.elements.proofs.head.open_pack.Goals.{In-Ok}

pub returns-in_err-check_matrix_size_fits-in-Ok : goal.returns-in_err-check_matrix_size_fits-in-Ok
returns-in_err-check_matrix_size_fits-in-Ok c =
    let h = (goal.at.returns-in_err-check_matrix_size_fits-in-Ok c).In-Ok in
    let f = fit_is h.args.bytes.now (sym h.in-Ok.is ∙ h.read_header.ensures) in
    let p = err_from_is_err_and c.from_residual.result c.from_residual.ensures.1 in
    rw (p.1, p.2, f, ← c.in_err-check_matrix_size_fits-in-Ok.ensures)
