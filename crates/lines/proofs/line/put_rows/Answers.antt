-- `line::put_rows` meets its contract: each turn puts the next line behind those before it.
use native.Mathlib.Numerals.{add-one}
use Rattle.text.proofs.Adding.{adds_then}
use Rattle.lines.proofs.line.put_rows.Goals as goal

pub loop-i-preserved : goal.loop-i-preserved
loop-i-preserved c = rw add-one (adds_then c.loop-i.invariant c.put_line.ensures)
