-- `set::store_tags` meets its contract: the tags up to a place stand in the list, and those behind it are left.
use Rattle.std.proofs.Common.{◌≡◌, sym, ◌∙◌, arith, ◌<◌, ◌-◌, length}
use Rattle.std.specs.Prelude.{Some}
use Rattle.sets.specs.Items.{item_at}
use Rattle.sets.proofs.Items.{item-tells}
use Rattle.sets.proofs.Stores.{stored-all, stored-skip, stored-room, stored_more}
use Rattle.sets.proofs.set.store_tags.Goals as goal
use Rattle.sets.proofs.set.store_tags.Goals.{In-Some}

item : (k : In-Some) → Some k.in-Some.item ≡ item_at k.args.set.now k.loop-item.at
item k = sym k.in-Some.is ∙ k.read_item.ensures

-- each goes on
less : (k : In-Some) → length k.args.set.now - k.in-Some.item.end < length k.args.set.now - k.loop-item.at
less k = let t = item-tells k.args.set.now k.loop-item.at (item k) in omega (arith, t.0, t.1, t.2)

pub bounds-tags-seen : goal.bounds-tags-seen
bounds-tags-seen c =
    let a = c.args in
    stored-room a.set.now a.tags.now c.loop-item.invariant (item (goal.at.bounds-tags-seen c).In-Some) (sym c.is_pushed.ensures ∙ c.if-is_pushed.true)

pub loop-item-smaller-then-is_pushed : goal.loop-item-smaller-then-is_pushed
loop-item-smaller-then-is_pushed c = less (goal.at.loop-item-smaller-then-is_pushed c).In-Some

pub loop-item-preserved-then-is_pushed : goal.loop-item-preserved-then-is_pushed
loop-item-preserved-then-is_pushed c =
    let a = c.args in
    stored_more a.set.now a.tags.now c.loop-item.invariant (item (goal.at.loop-item-preserved-then-is_pushed c).In-Some) (sym c.is_pushed.ensures ∙ c.if-is_pushed.true)

pub loop-item-smaller : goal.loop-item-smaller
loop-item-smaller c = less (goal.at.loop-item-smaller c).In-Some

pub loop-item-preserved : goal.loop-item-preserved
loop-item-preserved c =
    let a = c.args in
    stored-skip a.set.now a.tags.now c.loop-item.invariant (item (goal.at.loop-item-preserved c).In-Some) (sym c.is_pushed.ensures ∙ c.if-is_pushed.false)

pub returns : goal.returns
returns c =
    let a = c.args in
    stored-all a.set.now a.tags.now c.loop-item.invariant (sym c.in_default.is ∙ c.read_item.ensures)
