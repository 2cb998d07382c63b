-- `put::hex_digits` meets its contract, by the letter.
use native.Mathlib.Omega.{arith}
use borrow.Author.Tests.{ne_eqb, le-leb, lt-leb}
use Rattle.replies.specs.ReplyText.{hex_digits}
use Rattle.replies.proofs.put.hex_digits.Goals as goal

pub returns-in-87 : goal.returns-in-87
unfolding hex_digits
returns-in-87 c = rw c.in-87.is

pub returns-in-88-to-90 : goal.returns-in-88-to-90
unfolding hex_digits
returns-in-88-to-90 c =
    let l = c.args.letter in
    rw (ne_eqb l 0x57 (λ e. omega arith), le-leb 0x58 l (omega arith), le-leb l 0x5a (omega arith))

pub returns-in_default : goal.returns-in_default
unfolding hex_digits
returns-in_default c =
    let l = c.args.letter in
    rw (ne_eqb l 0x57 (λ e. omega arith), lt-leb 0x58 l (omega arith))

pub returns-in_default-2 : goal.returns-in_default-2
unfolding hex_digits
returns-in_default-2 c =
    let l = c.args.letter in
    rw (ne_eqb l 0x57 (λ e. omega arith), le-leb 0x58 l (omega arith), lt-leb l 0x5a (omega arith))
