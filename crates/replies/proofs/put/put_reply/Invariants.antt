use lib.ListN.{drop}
use Rattle.text.specs.Forms.{spread}
use Rattle.text.proofs.Adding.{Owes}
use Rattle.replies.specs.Forms.{form_of}
use Rattle.replies.specs.ReplyText.{text_of, is_end, reply_text}
use Rattle.replies.proofs.put.put_reply.Given as goal

abbrev pub invariant-loop-i : goal.invariant-loop-i
invariant-loop-i l = Owes (spread is_end (text_of l.reply) (drop l.i (form_of l.reply.form))) l.page (reply_text l.reply) l.initial.page
