-- What was written into lent bytes, behind its reply.
use Rattle.std.specs.Prelude.{ℕ, min, List, ◌++◌, length, take, Err, Ok, Result}
use Rattle.text.specs.Marks.{byte_mark, unmarked_from}
use Rattle.replies.specs.Replies.{written_reply}
use Rattle.replies.specs.ReplyText.{reply_text}
use Rattle.shown.specs.Bytes.{bytes_text}
use Rattle.shown.specs.Touched.{touched_text}
use Rattle.answers.specs.declared.Refusal.{Refusal}

-- how many bytes it was to write
abbrev pub used_by : Result ℕ Refusal → ℕ
used_by (Ok count) = count
used_by (Err _) = 0

-- those bytes; behind them the marks are to stand
module _ (form : ℕ) (w : Result ℕ Refusal) (lent : List ℕ) where
  abbrev pub filled_of : ℕ
  filled_of = min (used_by w) (length lent)

  abbrev pub written_text : List ℕ
  written_text =
      reply_text (written_reply form w)
      ++ bytes_text form (take filled_of lent)
      ++ touched_text (unmarked_from byte_mark filled_of (length lent) lent)
