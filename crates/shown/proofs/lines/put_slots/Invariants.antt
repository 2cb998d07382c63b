use mathlib.Core.Path.{◌≡◌}
use lib.ListN.{length, get_or}
use Rattle.answers.specs.Lent.{joined}
use Rattle.text.specs.Page.{Adds}
use Rattle.replies.specs.ReplyText.{reply_text}
use Rattle.shown.specs.Lines.{slot_reply, pair_at}
use Rattle.shown.proofs.lines.put_slots.Given as goal

abbrev pub invariant-loop-bits : goal.invariant-loop-bits
invariant-loop-bits l = Adds (joined (length l.yielded) (λ k. reply_text (slot_reply (pair_at l.rows k) (get_or l.states k 0) (get_or l.correlations k 0))))
    l.initial.page l.page
    × (l.pair ≡ pair_at l.rows (length l.yielded))
