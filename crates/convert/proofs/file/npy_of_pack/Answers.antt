-- `file::npy_of_pack` meets its contract: what was made goes to standard output, and any refusal to standard error.
use mathlib.Core.Path.{sym, ◌∙◌}
use lib.ListN.{length}
use Rattle.convert.specs.Converted.{npy_of}
use Rattle.convert.proofs.Made.{streams-made}
use Rattle.convert.proofs.Makes.{npy-makes}
use Rattle.convert.proofs.file.npy_of_pack.Goals as goal

pub returns-in-Ok : goal.returns-in-Ok
returns-in-Ok c =
    let a = c.args in
    rw (sym c.is_too_big.ensures ∙ c.if-is_too_big.false)
    (streams-made (npy_of a.bytes.now) a.out.now c.put_npy-made.ensures.0 c.put_npy-made.ensures.1 (npy-makes a.bytes.now (length a.out.now)) c.in-Ok.is)
