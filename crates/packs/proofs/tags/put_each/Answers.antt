-- `tags::put_each` meets its contract: each turn puts the next tag.
use native.Mathlib.Numerals.{add-one}
use lib.ListN.{drop_of_length-le}
use lib.Seq.{drop-cons}
use Rattle.text.proofs.Adding.{owes-more, owes-done}
use Rattle.packs.proofs.tags.put_each.Goals as goal

pub loop-tag-preserved : goal.loop-tag-preserved
loop-tag-preserved c =
    let p = c.loop-tag in
    let tags = c.args.tags.now in
    rw add-one (owes-more (rw (drop-cons tags p.tag-index 0 c.loop-tag-test.true) at p.invariant) c.named.ensures)

pub returns : goal.returns
returns c =
    let tags = c.args.tags.now in
    owes-done (rw (drop_of_length-le tags {i = c.loop-tag.tag-index} c.loop-tag-test.false) at c.loop-tag.invariant)
