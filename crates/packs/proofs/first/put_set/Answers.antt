-- `first::put_set` meets its contract.
use Rattle.text.proofs.Adding.{adds_then}
use Rattle.packs.proofs.first.put_set.Goals as goal

pub returns-in-Ok : goal.returns-in-Ok
returns-in-Ok c = rw c.in-Ok.is (adds_then c.text.ensures c.put_values.ensures)
