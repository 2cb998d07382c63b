-- `line::put_counts` meets its contract: one piece behind the other.
use Rattle.text.proofs.Adding.{adds_then}
use Rattle.lines.proofs.line.put_counts.Goals as goal

pub returns : goal.returns
returns c = adds_then (adds_then (adds_then c.named.ensures c.named-2.ensures) c.named-3.ensures) c.text.ensures
