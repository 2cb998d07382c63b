-- `put::ends` meets its contract, by the letter.
use mathlib.Core.Logic.{⊎_elim}
use Rattle.replies.specs.ReplyText.{is_end}
use Rattle.replies.proofs.Letters.{neither}
use Rattle.replies.proofs.put.ends.Goals as goal

pub returns-in-44 : goal.returns-in-44
unfolding is_end
returns-in-44 c = ⊎_elim (λ e. rw e) (λ e. rw e) c.in-44.is

pub returns-in_default : goal.returns-in_default
unfolding is_end
returns-in_default c = rw (neither _ _ _ c.in_default.in_default-own.rest.1)
