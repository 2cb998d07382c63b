-- `put::value` meets its contract, by the letter.
use mathlib.Core.Logic.{⊎_elim}
use Rattle.replies.specs.ReplyText.{value_of}
use Rattle.replies.proofs.Letters.{neither}
use Rattle.replies.proofs.put.value.Goals as goal

pub returns-in-66 : goal.returns-in-66
unfolding value_of
returns-in-66 c = ⊎_elim (λ e. rw e) (λ e. rw e) c.in-66.is

pub returns-in-67 : goal.returns-in-67
unfolding value_of
returns-in-67 c = ⊎_elim (λ e. rw e) (λ e. rw e) c.in-67.is

pub returns-in-68 : goal.returns-in-68
unfolding value_of
returns-in-68 c = ⊎_elim (λ e. rw e) (λ e. rw e) c.in-68.is

pub returns-in_default : goal.returns-in_default
unfolding value_of
returns-in_default c =
    let r = c.in_default.in_default-own.rest in
    rw (neither _ _ _ r.0.0.1, neither _ _ _ r.0.1, neither _ _ _ r.1)
