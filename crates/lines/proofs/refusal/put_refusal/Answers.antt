-- `refusal::put_refusal` meets its contract.
use Rattle.text.proofs.Adding.{adds_then}
use Rattle.lines.proofs.refusal.put_refusal.Goals as goal

pub returns : goal.returns
returns c = adds_then c.put_refused.ensures c.byte.ensures
