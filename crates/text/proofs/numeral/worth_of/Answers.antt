-- `numeral::worth_of` meets its contract: the tests in turn.
use mathlib.Core.Path.{ap}
use borrow.Author.Tests.{lt-ltb, le-ltb, le-leb, lt-leb}
use native.Mathlib.Omega.{arith}
use Rattle.std.specs.Prelude.{Some}
use Rattle.text.specs.Numeral.{worth}
use Rattle.text.proofs.numeral.worth_of.Goals as goal

pub returns-in-48-to-57 : goal.returns-in-48-to-57
unfolding worth
returns-in-48-to-57 c = let b = c.args.byte in rw (le-ltb b 0x30 (omega arith), le-leb b 0x39 (omega arith))

pub returns-in-65-to-70 : goal.returns-in-65-to-70
unfolding worth
returns-in-65-to-70 c =
    let b = c.args.byte in
    rw (le-ltb b 0x30 (omega arith), lt-leb b 0x39 (omega arith), le-ltb b 0x41 (omega arith), le-leb b 0x46 (omega arith)) (ap Some (omega arith))

pub returns-in_default : goal.returns-in_default
unfolding worth
returns-in_default c = rw (lt-ltb c.args.byte 0x30 (omega arith))

pub returns-in_default-2 : goal.returns-in_default-2
unfolding worth
returns-in_default-2 c =
    let b = c.args.byte in
    rw (le-ltb b 0x30 (omega arith), lt-leb b 0x39 (omega arith), lt-ltb b 0x41 (omega arith))

pub returns-in_default-3 : goal.returns-in_default-3
unfolding worth
returns-in_default-3 c =
    let b = c.args.byte in
    rw (le-ltb b 0x30 (omega arith), lt-leb b 0x39 (omega arith), le-ltb b 0x41 (omega arith), lt-leb b 0x46 (omega arith))
