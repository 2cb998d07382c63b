-- `pack::put_place` meets its contract: one piece behind the other.
use Rattle.text.proofs.Adding.{adds_then}
use Rattle.packs.proofs.pack.put_place.Goals as goal

pub returns : goal.returns
returns c = adds_then (adds_then c.text.ensures c.put_values.ensures) c.byte.ensures
