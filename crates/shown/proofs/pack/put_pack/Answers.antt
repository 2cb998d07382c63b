-- `pack::put_pack` meets its contract: the reply, the lines and the end stand behind each other.
use Rattle.text.proofs.Adding.{adds_then}
use Rattle.shown.proofs.pack.put_pack.Goals as goal

pub returns : goal.returns
returns c =
    rw (← c.pack_of-pack.ensures, ← c.touched.ensures, ← c.of_read.ensures)
    (adds_then
    (adds_then (adds_then c.put_reply.ensures c.put_deviations.ensures) c.put_slots.ensures)
    c.put_touched.ensures)
