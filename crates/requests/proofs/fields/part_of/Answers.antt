-- `fields::part_of` meets its contract, by the letter.
use borrow.Author.Tests.{ne_eqb}
use Rattle.requests.specs.Fields.{part_of}
use Rattle.requests.proofs.fields.part_of.Goals as goal

pub returns-in-83 : goal.returns-in-83
unfolding part_of
returns-in-83 c = rw c.in-83.is

pub returns-in-67 : goal.returns-in-67
unfolding part_of
returns-in-67 c = rw c.in-67.is

pub returns-in_default : goal.returns-in_default
unfolding part_of
returns-in_default c =
    let l = c.args.letter in
    rw (ne_eqb l 0x53 c.in_default.in_default-own.rest.0.1, ne_eqb l 0x43 c.in_default.in_default-own.rest.1)
