-- `pack::next_pack` meets its contract: the first pack is the first of what is left.
use Rattle.std.proofs.Common.{◌≡◌, sym, ◌∙◌, arith, ◌+◌, ◌≤◌, ◌<◌, length}
use Rattle.std.specs.Prelude.{Some}
use borrow.Author.Tests.{le-leb}
use Rattle.sets.specs.Items.{item_at, items_from}
use Rattle.sets.specs.Packs.{packs_of, nth, next_pack}
use Rattle.sets.proofs.Items.{item-tells}
use Rattle.sets.specs.Tags.{is_pushed}
use Rattle.sets.proofs.Walk.{one}
use Rattle.sets.proofs.Next.{seeks-over, seeks-found, seeks-on}
use Rattle.sets.proofs.pack.next_pack.Goals as goal
use Rattle.sets.proofs.pack.next_pack.Goals.{At-loop-item, In_ok-item}

-- what is looked for
first : (l : At-loop-item) → let a = l.args in
    next_pack a.set.now a.before ≡ nth 0 (packs_of a.set.now a.before.to (items_from a.set.now a.before.end))
first l = let a = l.args in rw (le-leb a.before.to a.before.end l.if-at-seen.false)

item : (k : In_ok-item) → Some k.in_ok-item.item ≡ item_at k.args.set.now k.loop-item.at
item k = sym k.in_ok-item.was ∙ k.read_item.ensures

tells : (k : In_ok-item) → (k.loop-item.at + 1 < k.in_ok-item.item.start) × (k.in_ok-item.item.start ≤ k.in_ok-item.item.end) × (k.in_ok-item.item.end ≤ length k.args.set.now)
tells k = item-tells k.args.set.now k.loop-item.at (item k)

pub returns-in_err-item : goal.returns-in_err-item
returns-in_err-item c =
    let l = (goal.at.returns-in_err-item c).At-loop-item in let a = l.args in
    c.from_residual.ensures
    ∙ sym (first l ∙ seeks-over a.set.now a.before.to a.before.end l.loop-item.invariant (sym c.in_err-item.was ∙ c.read_item.ensures))

pub returns-in-Some : goal.returns-in-Some
returns-in-Some c =
    let l = (goal.at.returns-in-Some c).At-loop-item in let a = l.args in
    sym (first l ∙ seeks-found a.set.now a.before.to a.before.end l.loop-item.invariant (item (goal.at.returns-in-Some c).In_ok-item) (sym c.pack_in.ensures ∙ c.in-Some.is))

pub overflow_add-seen : goal.overflow_add-seen
overflow_add-seen c =
    let t = tells (goal.at.overflow_add-seen c).In_ok-item in
    let n : c.tag_count-seen.result ≤ 1 = rw c.tag_count-seen.ensures (one (is_pushed c.in_ok-item.item.tag)) in
    omega (arith, t.0, t.1, t.2, c.loop-item.invariant.few, n)

pub loop-item-smaller : goal.loop-item-smaller
loop-item-smaller c = let t = tells (goal.at.loop-item-smaller c).In_ok-item in omega (arith, t.0, t.1, t.2)

pub loop-item-preserved : goal.loop-item-preserved
loop-item-preserved c =
    let a = c.args in
    rw c.tag_count-seen.ensures
    (seeks-on a.set.now a.before.to a.before.end c.loop-item.invariant (item (goal.at.loop-item-preserved c).In_ok-item) (sym c.pack_in.ensures ∙ c.in_default.is))
