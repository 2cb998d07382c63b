-- `fields::most` meets its contract, by the letter.
use mathlib.Core.Logic.{⊎_elim}
use native.Mathlib.Omega.{arith}
use borrow.Author.Tests.{ne_eqb}
use Rattle.requests.specs.Fields.{most}
use Rattle.requests.proofs.Letters.{one_of_two}
use Rattle.requests.proofs.fields.most.Goals as goal

pub returns-in-68 : goal.returns-in-68
unfolding most
returns-in-68 c = rw c.in-68.is

pub returns-in-71 : goal.returns-in-71
unfolding most
returns-in-71 c = rw c.in-71.is

pub returns-in-76 : goal.returns-in-76
unfolding most
returns-in-76 c = rw c.in-76.is

pub returns-in-82 : goal.returns-in-82
unfolding most
returns-in-82 c = rw c.in-82.is

pub returns-in-69 : goal.returns-in-69
unfolding most
returns-in-69 c =
    let l = c.args.letter in
    ⊎_elim (λ e. rw e) (λ e. rw e) (one_of_two 0x45 l (omega arith) (omega arith))

pub returns-in_default : goal.returns-in_default
unfolding most
returns-in_default c =
    let l = c.args.letter in
    rw (
      ne_eqb l 0x44 (λ e. omega arith),
      ne_eqb l 0x45 (λ e. omega arith),
      ne_eqb l 0x46 (λ e. omega arith),
      ne_eqb l 0x47 (λ e. omega arith),
      ne_eqb l 0x4c (λ e. omega arith),
      ne_eqb l 0x52 (λ e. omega arith),
    )

pub returns-in_default-2 : goal.returns-in_default-2
unfolding most
returns-in_default-2 c =
    let l = c.args.letter in
    rw (
      ne_eqb l 0x44 (λ e. omega arith),
      ne_eqb l 0x45 (λ e. omega arith),
      ne_eqb l 0x46 (λ e. omega arith),
      ne_eqb l 0x47 (λ e. omega arith),
      ne_eqb l 0x4c (λ e. omega arith),
      ne_eqb l 0x52 (λ e. omega arith),
    )
