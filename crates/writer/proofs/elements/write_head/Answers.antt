-- `elements::write_head` meets its contract: there is room, so that N is written, and the control behind it.
use native.Mathlib.Omega.{arith}
use Rattle.writer.specs.Pack.{control_byte}
use Rattle.writer.proofs.Head.{head-stored}
use Rattle.writer.proofs.elements.write_head.Goals as goal

pub returns : goal.returns
returns c =
    let a = c.args in
    rw c.control_byte.ensures (head-stored a.rows (omega arith) a.out.now (omega arith) c.write_ber_oid.result c.write_ber_oid.new.out c.write_ber_oid.ensures (control_byte a.sparse a.clen) 4 c.in-Ok.is)
