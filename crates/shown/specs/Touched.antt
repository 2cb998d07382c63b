-- The end of an answer.
use Rattle.std.specs.Prelude.{ℕ, Bool, List}
use Rattle.answers.specs.Table.{pick}
use Rattle.replies.specs.Places.{empty_at, touched_at}
use Rattle.replies.specs.Reply.{words_reply}
use Rattle.replies.specs.ReplyText.{reply_text}

-- ` touched` where lent memory was changed that was to be left, otherwise nothing
abbrev pub touched_text : Bool → List ℕ
touched_text changed = reply_text (words_reply (pick changed touched_at empty_at))
