-- `item::read_item` meets its contract.
use mathlib.Core.Path.{◌≡◌, sym, ap, ◌∙◌}
use Prim.Native.Nat.{◌+◌, ◌≤◌}
use native.Mathlib.Omega.{arith}
use borrow.Author.Rules.{part_to_end}
use lib.ListN.{length, drop, length-drop, drop_of_length-le}
use Rattle.std.specs.Prelude.{Some}
use Rattle.numbers.specs.BerOid.{oid_read, oid_read_strict}
use Rattle.numbers.proofs.BerOid.{oid-within}
use Rattle.sets.specs.Items.{item_at}
use Rattle.sets.proofs.item.read_item.Goals as goal
use Rattle.sets.proofs.item.read_item.Goals.{In_ok-oid}

-- a tag that was read
known : (c : In_ok-oid) → Some c.in_ok-oid.oid ≡ oid_read_strict (drop c.args.at c.args.set.now)
known c = sym c.in_ok-oid.was ∙ c.read_ber_oid_strict.ensures ∙ ap oid_read_strict (part_to_end c.args.set.now c.args.at)

within : (c : In_ok-oid) → c.args.at + c.in_ok-oid.oid.taken ≤ length c.args.set.now
within c =
    let a = c.args in
    omega (arith, (oid-within (drop a.at a.set.now) (known c)).1, length-drop a.at a.set.now)

-- past the set's end there is none
pub returns-then-set-at : goal.returns-then-set-at
unfolding item_at oid_read_strict oid_read
returns-then-set-at c =
    let a = c.args in
    rw (drop_of_length-le a.set.now {i = a.at} (omega arith))

pub returns-in_err-oid : goal.returns-in_err-oid
unfolding item_at
returns-in_err-oid c =
    let a = c.args in
    rw (c.from_residual.ensures, ← (sym c.in_err-oid.was ∙ c.read_ber_oid_strict.ensures ∙ ap oid_read_strict (part_to_end a.set.now a.at)))

pub overflow_add-at : goal.overflow_add-at
overflow_add-at c = omega (arith, within (goal.at.overflow_add-at c).In_ok-oid)

pub value_behind-requires : goal.value_behind-requires
value_behind-requires c = within (goal.at.value_behind-requires c).In_ok-oid

pub returns : goal.returns
unfolding item_at
returns c = rw (← (known (goal.at.returns c).In_ok-oid)) c.value_behind.ensures
