-- `reason::put_ruled` meets its contract: one piece behind the other.
use Rattle.text.proofs.Adding.{adds_then}
use Rattle.reasons.proofs.reason.put_ruled.Goals as goal

pub returns : goal.returns
returns c =
    adds_then
    (adds_then
    (adds_then (adds_then c.text.ensures (rw c.letter_of.ensures at c.byte.ensures)) c.named.ensures)
    c.byte-2.ensures)
    c.put_refused.ensures
