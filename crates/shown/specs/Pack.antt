-- What was read, behind its reply.
use Rattle.std.specs.Prelude.{ℕ, Bool, ◌||◌, List, ◌++◌, Err, Ok, Result}
use Rattle.text.specs.Marks.{byte_mark, word_mark, unmarked_from}
use Rattle.layout.specs.declared.pack.SdccFlp.{SdccFlp}
use Rattle.replies.specs.Replies.{read_reply}
use Rattle.replies.specs.ReplyText.{reply_text}
use Rattle.shown.specs.declared.pack.Lent.{Lent}
use Rattle.shown.specs.Lines.{deviation_lines, slot_lines}
use Rattle.shown.specs.Touched.{touched_text}
use Rattle.answers.specs.declared.Refusal.{Refusal}

-- nothing of a pack that was refused
abbrev pub pack_of : Result SdccFlp Refusal → SdccFlp
pack_of (Ok pack) = pack
pack_of (Err _) = record { matrix_size = 0; deviations = 0; slots = 0 }

-- of what is lent, the marks are to stand behind the pack's own
abbrev pub is_touched : Lent → SdccFlp → List ℕ → List ℕ → List ℕ → Bool
is_touched lent p ds cs ss =
    unmarked_from word_mark p.deviations lent.deviations ds
    || (unmarked_from word_mark p.slots lent.correlations cs
    || unmarked_from byte_mark p.slots lent.states ss)

-- the counts or the refusal, the deviations, the slots
abbrev pub read_text : Lent → Result SdccFlp Refusal → List ℕ → List ℕ → List ℕ → List ℕ
read_text lent r ds cs ss =
    reply_text (read_reply r)
    ++ deviation_lines (pack_of r).deviations ds
    ++ slot_lines (pack_of r).matrix_size (pack_of r).slots cs ss
    ++ touched_text (is_touched lent (pack_of r) ds cs ss)
