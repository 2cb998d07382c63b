-- `element::put_span` meets its contract: one piece behind the other.
use Rattle.text.proofs.Adding.{adds_then}
use Rattle.parts.proofs.element.put_span.Goals as goal

pub returns : goal.returns
returns c = adds_then c.put_gap.ensures (adds_then c.text.ensures c.put_values.ensures)
