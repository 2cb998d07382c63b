-- `put::value` meets its contract, by the letter.
use borrow.Author.Tests.{ne_eqb}
use Rattle.reasons.specs.Sentences.{value_of}
use native.Mathlib.Omega.{arith}
use Rattle.reasons.proofs.sentence.value.Goals as goal

pub returns-in-78 : goal.returns-in-78
unfolding value_of
returns-in-78 c = rw c.in-78.is

pub returns-in-77 : goal.returns-in-77
unfolding value_of
returns-in-77 c = rw c.in-77.is

pub returns-in-83 : goal.returns-in-83
unfolding value_of
returns-in-83 c = rw c.in-83.is

pub returns-in-76 : goal.returns-in-76
unfolding value_of
returns-in-76 c = rw c.in-76.is

pub returns-in-80 : goal.returns-in-80
unfolding value_of
returns-in-80 c = rw c.in-80.is

pub returns-in-81 : goal.returns-in-81
unfolding value_of
returns-in-81 c = rw c.in-81.is

pub returns-in_default : goal.returns-in_default
unfolding value_of
returns-in_default c =
    let l = c.args.letter in
    rw (
      ne_eqb l 0x4e (λ e. omega arith),
      ne_eqb l 0x4d (λ e. omega arith),
      ne_eqb l 0x53 (λ e. omega arith),
      ne_eqb l 0x4c (λ e. omega arith),
      ne_eqb l 0x50 (λ e. omega arith),
      ne_eqb l 0x51 (λ e. omega arith),
    )
