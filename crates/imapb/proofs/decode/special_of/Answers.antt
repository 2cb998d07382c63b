-- `decode::special_of` meets its contract: the family of a code, without its low three bits, is its top two.
use mathlib.Core.Path.{◌≡◌}
use Prim.Native.Nat.{◌-◌, ◌*◌, ◌/◌, ◌^◌, ◌<◌}
use native.Mathlib.Omega.{arith}
use lib.Bits.{and_mask}
use lib.Pow.{pow_pos}
use Rattle.imapb.proofs.Length.{top-cut, cut-more}
use Rattle.imapb.proofs.decode.special_of.Goals as goal
use Rattle.imapb.proofs.decode.special_of.Goals.{Start}

-- the payload's bits
unit : (s : Start) → let m = s.args.mapping in m.top / 16 ≡ 2 ^ (8 * m.length - 5)
unit s = let m = s.args.mapping in rw m.top_is (top-cut m.length 4 (8 * m.length - 5) (omega (arith, m.least)))

-- the family has five bits
family : (s : Start) → s.args.y / 2 ^ (8 * s.args.mapping.length - 5) < 256
family s =
    let m = s.args.mapping in
    omega (arith, cut-more s.args.y (8 * m.length - 5) 3 (8 * m.length - 2) (omega (arith, m.least)), s.requires)

pub overflow_cast-family : goal.overflow_cast-family
overflow_cast-family c = omega (arith, family (goal.at.overflow_cast-family c).Start)

pub overflow_sub-mapping : goal.overflow_sub-mapping
overflow_sub-mapping c = rw (unit (goal.at.overflow_sub-mapping c).Start) (pow_pos (8 * c.args.mapping.length - 5))

pub returns : goal.returns
returns c =
    let s = (goal.at.returns c).Start in rw (unit s, and_mask s.args.y (8 * s.args.mapping.length - 5)) at c.classify_imapb_special.ensures
