use lib.ListN.{get_or}
use Rattle.answers.specs.Lent.{joined}
use Rattle.text.specs.Page.{Adds}
use Rattle.replies.specs.ReplyText.{reply_text}
use Rattle.shown.specs.Lines.{deviation_reply}
use Rattle.shown.proofs.lines.put_deviations.Given as goal

abbrev pub invariant-loop-i : goal.invariant-loop-i
invariant-loop-i l = Adds (joined l.i (λ i. reply_text (deviation_reply i (get_or l.deviations i 0)))) l.initial.page l.page
