-- `export::export_npy` meets its contract: a refusal that leaves all as it was, or the header and the body.
use mathlib.Core.Path.{◌≡◌, sym, ap}
use native.Mathlib.Omega.{arith}
use lib.ListN.{length}
use Rattle.answers.specs.Table.{Answer}
use Rattle.npy_header.proofs.Headers.{header-over}
use Rattle.npy_export.proofs.Put.{file-stored}
use Rattle.npy_export.proofs.Passed.{Exports, exports}
use Rattle.npy_export.proofs.export.export_npy.Goals as goal
use Rattle.npy_export.proofs.export.export_npy.Goals.{In_ok-check_export}

-- what passes tells
told : (c : In_ok-check_export) → let a = c.args in
    Exports a.n (length a.deviations.now) (length a.correlations.now) (length a.out.now)
told c =
    let a = c.args in
    exports a.n (length a.deviations.now) (length a.correlations.now) (length a.out.now)
    (sym (ap (λ (x : Answer). x.number) c.in_ok-check_export.ensures))

pub returns : goal.returns
returns c =
    let a = c.args in
    let t = told (goal.at.returns c).In_ok-check_export in
    let h = header-over a.n (omega (arith, t.few)) a.out.now (omega (arith, t.fits)) c.write_header.result c.write_header.ensures.0 c.write_header.ensures.1 in (
      rw (← c.in_ok-check_export.ensures, c.file_length.ensures),
      file-stored a.n a.deviations.now a.correlations.now t.few a.out.now t.fits h c.put_body.ensures,
    )
