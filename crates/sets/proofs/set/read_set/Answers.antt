-- `set::read_set` meets its contract.
use Rattle.std.proofs.Common.{sym, ap, length}
use Rattle.answers.specs.Table.{Answer}
use Rattle.sets.proofs.Taken.{tags-held}
use Rattle.sets.proofs.set.read_set.Goals as goal

pub store_tags-requires : goal.store_tags-requires
store_tags-requires c =
    let a = c.args in
    tags-held a.set.now (length a.tags.now) (sym (ap (λ (x : Answer). x.number) c.in_ok-counts.ensures))
