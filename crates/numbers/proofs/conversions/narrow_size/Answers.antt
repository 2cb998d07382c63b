-- `narrow_size` meets its contract: each arm is one of `Narrow`. Assumes nothing.
use mathlib.Core.Path.{◌≡◌, ◌∙◌}
use Prim.Native.Nat.{◌+◌, ◌-◌, ◌*◌, ◌/◌, ◌^◌, min}
use native.Mathlib.Omega.{arith}
use lib.Ieee.{binary32, binary64}
use Rattle.numbers.specs.Conversions.{converted}
use Rattle.numbers.proofs.Narrow.{few, to-zero, to-subnormal, to-normal, to-nan}
use Rattle.numbers.proofs.conversions.narrow_size.Goals as goal
use Rattle.numbers.proofs.conversions.narrow_size.Goals.{After-closest_to-2}

-- the sum, stopped at infinity, is the pattern
sum : (c : After-closest_to-2) → let b = c.args.bits in
    min ((b / 2 ^ 52 - 897) * 2 ^ 23 + c.closest_to-2.result) (255 * 2 ^ 23) ≡ converted binary64 binary32 b
sum c =
    rw c.closest_to-2.ensures (to-normal c.args.bits c.requires c.if-field-lt897.false c.if-bits-gt9218868437227405312.false)

pub returns-then-field-lt873 : goal.returns-then-field-lt873
returns-then-field-lt873 c = (to-zero c.args.bits c.requires c.if-field-lt873.true, omega arith)

pub returns-then-bits-gt9218868437227405312 : goal.returns-then-bits-gt9218868437227405312
returns-then-bits-gt9218868437227405312 c = (to-nan c.args.bits c.requires c.if-bits-gt9218868437227405312.true, omega arith)

pub returns-then-field-lt897 : goal.returns-then-field-lt897
returns-then-field-lt897 c =
    let b = c.args.bits in (
      c.closest_to.ensures ∙ to-subnormal b c.requires c.if-field-lt873.false c.if-field-lt897.true,
      omega (arith, c.closest_to.ensures, few b c.requires (926 - b / 2 ^ 52) (omega arith)),
    )

pub returns-then-size-lt2139095040 : goal.returns-then-size-lt2139095040
returns-then-size-lt2139095040 c = omega (arith, sum (goal.at.returns-then-size-lt2139095040 c).After-closest_to-2)

pub returns-else-size-lt2139095040 : goal.returns-else-size-lt2139095040
returns-else-size-lt2139095040 c = omega (arith, sum (goal.at.returns-else-size-lt2139095040 c).After-closest_to-2)
