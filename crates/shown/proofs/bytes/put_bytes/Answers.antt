-- `bytes::put_bytes` meets its contract: each turn puts the next byte behind those before it.
use native.Mathlib.Numerals.{add-one}
use Rattle.text.proofs.Adding.{adds_then}
use Rattle.shown.proofs.bytes.put_bytes.Goals as goal

pub loop-byte-preserved : goal.loop-byte-preserved
loop-byte-preserved c = rw add-one (adds_then c.loop-byte.invariant c.put_shown.ensures)
