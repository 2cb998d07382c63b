-- `whole_part` meets its contract: each arm is one of `WholePart`. Assumes nothing.
use native.Mathlib.Omega.{arith}
use Rattle.numbers.proofs.WholePart.{of_negative, of-large, of-small, of-fraction, of-whole}
use Rattle.numbers.proofs.conversions.whole_part.Goals as goal

pub returns-then-bits-gt9223372036854775808 : goal.returns-then-bits-gt9223372036854775808
returns-then-bits-gt9223372036854775808 c = of_negative c.args.bits c.if-bits-gt9223372036854775808.true (omega arith)

pub returns-then-field-ge1087 : goal.returns-then-field-ge1087
returns-then-field-ge1087 c = of-large c.args.bits c.if-bits-gt9223372036854775808.false c.if-field-ge1087.true

pub returns-then-field-lt1023 : goal.returns-then-field-lt1023
returns-then-field-lt1023 c = of-small c.args.bits c.if-bits-gt9223372036854775808.false c.if-field-lt1023.true

pub returns-then-field-lt1075 : goal.returns-then-field-lt1075
returns-then-field-lt1075 c =
    of-fraction c.args.bits c.if-bits-gt9223372036854775808.false c.if-field-lt1023.false c.if-field-lt1075.true

pub returns-else-field-lt1075 : goal.returns-else-field-lt1075
returns-else-field-lt1075 c = of-whole c.args.bits c.if-bits-gt9223372036854775808.false c.if-field-lt1075.false (omega arith)
