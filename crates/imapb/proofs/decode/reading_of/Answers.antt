-- `decode::reading_of` meets its contract: a code up to the top code has no flags.
use mathlib.Core.Path.{◌≡◌, sym, ap, ◌∙◌}
use Prim.Native.Nat.{◌-◌, ◌*◌, ◌/◌, ◌^◌}
use native.Mathlib.Omega.{arith}
use Rattle.imapb.specs.declared.decode.DecodedImapb.TheVariants.{Value, OutOfRange}
use Rattle.imapb.proofs.Flags.{both-set, reads-special, reads-outside}
use Rattle.imapb.proofs.Law.{reads-value}
use Rattle.imapb.proofs.decode.reading_of.Goals as goal
use Rattle.imapb.proofs.decode.reading_of.Goals.{Then-mapping-y}

-- both of its top bits are set
set : (c : Then-mapping-y) → let a = c.args in a.y / 2 ^ (8 * a.mapping.length - 2) ≡ 3
set c =
    let m = c.args.mapping in both-set m.length c.args.y m.least (rw m.top_is at c.if-mapping-y.true) c.requires

pub special_of-requires : goal.special_of-requires
special_of-requires c = set (goal.at.special_of-requires c).Then-mapping-y

pub returns-then-mapping-y : goal.returns-then-mapping-y
returns-then-mapping-y c =
    let m = c.args.mapping in
    c.special_of.ensures ∙ sym (reads-special m.length c.args.y m.least (set (goal.at.returns-then-mapping-y c).Then-mapping-y))

pub returns-then-y-mapping : goal.returns-then-y-mapping
returns-then-y-mapping c =
    let m = c.args.mapping in
    ap Value c.value_of-value.ensures ∙ sym (reads-value m.length c.args.y m.least (omega (arith, m.top_is)))

pub returns-else-y-mapping : goal.returns-else-y-mapping
returns-else-y-mapping c =
    let m = c.args.mapping in
    ap OutOfRange c.value_of-value.ensures
    ∙ sym (reads-outside m.length c.args.y m.least (rw m.top_is at c.if-mapping-y.false) (omega (arith, m.top_is)))
