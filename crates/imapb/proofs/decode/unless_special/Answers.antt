-- `decode::unless_special` meets its contract: the top two bits of a code are what half its top code goes into it.
use mathlib.Core.Path.{◌≡◌, ◌∙◌}
use Prim.Native.Nat.{◌-◌, ◌*◌, ◌/◌, ◌^◌}
use native.Mathlib.Omega.{arith}
use borrow.Author.Tests.{eq-eqb, ne_eqb}
use lib.Pow.{pow_pos}
use Rattle.imapb.specs.Tables.{length_rule}
use Rattle.imapb.proofs.Length.{is-supported, length-found, top-cut}
use Rattle.imapb.proofs.decode.unless_special.Goals as goal
use Rattle.imapb.proofs.decode.unless_special.Goals.{After-mapping-mapping, Then-y-mapping-eq3}

-- the length is the one that was given
long : (c : After-mapping-mapping) → c.mapping-mapping.result.length ≡ c.args.length
long c = c.mapping-mapping.ensures ∙ (length-found (length_rule c.args.length) c.args.length c.in-Ok.is c.new.ensures).1

-- half the top code
half : (c : After-mapping-mapping) → let m = c.mapping-mapping.result in m.top / 2 ≡ 2 ^ (8 * m.length - 2)
half c = let m = c.mapping-mapping.result in rw m.top_is (top-cut m.length 1 (8 * m.length - 2) (omega (arith, m.least)))

-- the top two bits are both set
set : (c : Then-y-mapping-eq3) → c.args.y / 2 ^ (8 * c.mapping-mapping.result.length - 2) ≡ 3
set c = rw (half (goal.at.special_of-requires c).After-mapping-mapping) at c.if-y-mapping-eq3.true

pub nonzero_div-y : goal.nonzero_div-y
nonzero_div-y c = rw (half (goal.at.nonzero_div-y c).After-mapping-mapping) (pow_pos (8 * c.mapping-mapping.result.length - 2))

pub special_of-requires : goal.special_of-requires
special_of-requires c = set (goal.at.special_of-requires c).Then-y-mapping-eq3

pub returns-then-y-mapping-eq3 : goal.returns-then-y-mapping-eq3
returns-then-y-mapping-eq3 c =
    let m = c.mapping-mapping.result in
    rw (← (long (goal.at.returns-then-y-mapping-eq3 c).After-mapping-mapping), is-supported m.length m.least m.most, eq-eqb (c.args.y / 2 ^ (8 * m.length - 2)) 3 (set (goal.at.returns-then-y-mapping-eq3 c).Then-y-mapping-eq3)) c.special_of.ensures

pub returns : goal.returns
returns c =
    let t = (goal.at.returns c).After-mapping-mapping in
    let m = c.mapping-mapping.result in
    rw (← (long t), is-supported m.length m.least m.most, ne_eqb (c.args.y / 2 ^ (8 * m.length - 2)) 3 (rw (half t) at c.if-y-mapping-eq3.false))
