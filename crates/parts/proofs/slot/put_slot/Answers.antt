-- `slot::put_slot` meets its contract: one piece behind the other.
use Rattle.text.proofs.Adding.{adds_then}
use Rattle.parts.proofs.slot.put_slot.Goals as goal

pub returns-in-None : goal.returns-in-None
returns-in-None c =
    rw c.in-None.is
    (adds_then c.put_gap.ensures (adds_then (adds_then c.text.ensures c.put_values.ensures) c.text-in-None.ensures))

pub returns-in-Some : goal.returns-in-Some
returns-in-Some c =
    rw c.in-Some.is
    (adds_then c.put_gap.ensures (adds_then (adds_then c.text.ensures c.put_values-in-Some.ensures) c.put_present.ensures))
