-- `element::put_elements` meets its contract: one element behind the other.
use Rattle.text.proofs.Adding.{adds_then}
use Rattle.parts.proofs.element.put_elements.Goals as goal

pub returns : goal.returns
returns c =
    adds_then
    (adds_then (adds_then (adds_then c.put_span.ensures c.put_span-2.ensures) c.put_span-3.ensures) c.put_span-4.ensures)
    c.put_span-5.ensures
