-- `item::value_behind` meets its contract.
use mathlib.Core.Path.{◌≡◌, sym, ap, ◌∙◌}
use Prim.Native.Nat.{◌+◌, ◌≤◌}
use native.Mathlib.Omega.{arith}
use borrow.Author.Tests.{le-ltb}
use borrow.Author.Rules.{part_to_end}
use lib.ListN.{length, drop, length-drop}
use Rattle.std.specs.Prelude.{Some}
use Rattle.numbers.specs.Ber.{ber_read_strict}
use Rattle.numbers.proofs.Lengths.{ber-within}
use Rattle.sets.proofs.item.value_behind.Goals as goal
use Rattle.sets.proofs.item.value_behind.Goals.{In_ok-length}

-- a length that was read
known : (c : In_ok-length) → Some c.in_ok-length.length ≡ ber_read_strict (drop c.args.at c.args.set.now)
known c = sym c.in_ok-length.was ∙ c.read_ber_strict.ensures ∙ ap ber_read_strict (part_to_end c.args.set.now c.args.at)

within : (c : In_ok-length) → c.args.at + c.in_ok-length.length.taken ≤ length c.args.set.now
within c =
    let a = c.args in
    omega (arith, (ber-within (drop a.at a.set.now) (known c)).1, length-drop a.at a.set.now, c.requires)

pub overflow_add-start : goal.overflow_add-start
overflow_add-start c = omega (arith, within (goal.at.overflow_add-start c).In_ok-length)

pub overflow_sub-set : goal.overflow_sub-set
overflow_sub-set c = omega (arith, within (goal.at.overflow_sub-set c).In_ok-length)

pub overflow_add-result : goal.overflow_add-result
overflow_add-result c = omega (arith, within (goal.at.overflow_add-result c).In_ok-length)

pub returns : goal.returns
returns c =
    let k = (goal.at.returns c).In_ok-length in
    let l = k.in_ok-length.length in
    rw (← (known k), le-ltb (length c.args.set.now) (c.args.at + l.taken + l.value) (omega (arith, within k)))
