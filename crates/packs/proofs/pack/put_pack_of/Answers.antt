-- `pack::put_pack_of` meets its contract: one piece behind the other.
use Rattle.packs.proofs.Refined.{pack-put}
use Rattle.packs.proofs.pack.put_pack_of.Goals as goal

pub returns : goal.returns
returns c =
    let a = c.args in
    pack-put a.set.now a.tags.now a.place c.pack_part.ensures c.tags_part.ensures c.put_place.ensures c.put_tags.ensures c.byte.ensures c.put_answer.ensures
