-- `pack::pack_of_npy` meets its contract: what was made goes to standard output, and any refusal to standard error.
use mathlib.Core.Path.{sym, ◌∙◌}
use lib.ListN.{length}
use Rattle.convert.specs.Converted.{clen_of, pack_of}
use Rattle.convert.proofs.Made.{streams-made}
use Rattle.convert.proofs.Makes.{pack-makes}
use Rattle.convert.proofs.pack.pack_of_npy.Goals as goal

pub returns-in-Ok : goal.returns-in-Ok
returns-in-Ok c =
    let a = c.args in
    rw (sym c.is_too_big.ensures ∙ c.if-is_too_big.false)
    (streams-made (pack_of a.file.now (clen_of a.clen)) a.out.now c.put_pack-made.ensures.0 c.put_pack-made.ensures.1 (pack-makes a.file.now (clen_of a.clen) (length a.out.now)) c.in-Ok.is)
