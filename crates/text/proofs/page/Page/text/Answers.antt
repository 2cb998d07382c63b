-- `Page::text` meets its contract: each turn adds the next byte.
use Rattle.std.proofs.Math.Numerals.{add-one}
use lib.Seq.{take-suc}
use Rattle.text.proofs.Adding.{adds_then}
use Rattle.text.proofs.page.Page.text.Goals as goal

pub loop-byte-preserved : goal.loop-byte-preserved
loop-byte-preserved c =
    rw (add-one, take-suc c.args.text.now c.loop-byte.byte-index 0 c.loop-byte-test.true)
    (adds_then c.loop-byte.invariant c.byte.ensures)
