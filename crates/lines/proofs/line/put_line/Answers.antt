-- `line::put_line` meets its contract: one piece behind the other.
use Rattle.text.proofs.Adding.{adds_then}
use Rattle.lines.proofs.line.put_line.Goals as goal

pub returns : goal.returns
returns c = adds_then (adds_then (adds_then c.byte.ensures c.put_values.ensures) c.bits.ensures) c.byte-2.ensures
