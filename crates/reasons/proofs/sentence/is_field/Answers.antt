-- `put::is_field` meets its contract: the tests in turn.
use native.Mathlib.Omega.{arith}
use borrow.Author.Tests.{le-leb, lt-leb}
use Rattle.reasons.specs.Sentences.{is_field}
use Rattle.reasons.proofs.sentence.is_field.Goals as goal

pub returns-in-76-to-78 : goal.returns-in-76-to-78
unfolding is_field
returns-in-76-to-78 c =
    let l = c.args.letter in
    rw (le-leb 0x4c l (omega arith), le-leb l 0x4e (omega arith))

pub returns-in-80-to-83 : goal.returns-in-80-to-83
unfolding is_field
returns-in-80-to-83 c =
    let l = c.args.letter in
    rw (le-leb 0x4c l (omega arith), lt-leb l 0x4e (omega arith), le-leb 0x50 l (omega arith), le-leb l 0x53 (omega arith))

pub returns-in_default : goal.returns-in_default
unfolding is_field
returns-in_default c =
    let l = c.args.letter in
    rw (lt-leb 0x4c l (omega arith), lt-leb 0x50 l (omega arith))

pub returns-in_default-2 : goal.returns-in_default-2
unfolding is_field
returns-in_default-2 c =
    let l = c.args.letter in
    rw (le-leb 0x4c l (omega arith), lt-leb l 0x4e (omega arith), lt-leb 0x50 l (omega arith))

pub returns-in_default-3 : goal.returns-in_default-3
unfolding is_field
returns-in_default-3 c =
    let l = c.args.letter in
    rw (le-leb 0x4c l (omega arith), lt-leb l 0x4e (omega arith), le-leb 0x50 l (omega arith), lt-leb l 0x53 (omega arith))
