-- `header::put_described` meets its contract: each piece behind the one before it.
use Rattle.text.proofs.Adding.{adds_then}
use Rattle.npy_header.proofs.header.put_described.Goals as goal

pub returns : goal.returns
returns c = adds_then (adds_then c.named.ensures c.named-2.ensures) c.text.ensures
