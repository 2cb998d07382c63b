-- `tags::put_tags` meets its contract.
use Rattle.text.proofs.Adding.{adds_then}
use Rattle.packs.proofs.Refined.{listed-none, listed-some}
use Rattle.packs.proofs.tags.put_tags.Goals as goal

pub returns-then-tags-eq0 : goal.returns-then-tags-eq0
returns-then-tags-eq0 c =
    rw (listed-none c.args.tags.now c.if-tags-eq0.true) (adds_then c.text.ensures c.text-then-tags-eq0.ensures)

pub returns-else-tags-eq0 : goal.returns-else-tags-eq0
returns-else-tags-eq0 c =
    rw (listed-some c.args.tags.now c.if-tags-eq0.false) (adds_then c.text.ensures c.put_each.ensures)
