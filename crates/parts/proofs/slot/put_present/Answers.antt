-- `slot::put_present` meets its contract: one piece behind the other.
use Rattle.text.proofs.Adding.{adds_then}
use Rattle.parts.proofs.slot.put_present.Goals as goal

pub returns-then-lines : goal.returns-then-lines
returns-then-lines c =
    rw c.if-lines.true (adds_then c.put_values.ensures (adds_then c.byte.ensures c.put_bytes.ensures))
