-- The lines of a pack behind its reply.
use Rattle.std.specs.Prelude.{ℕ, zero, suc, ◌+◌, min, List, ltb, length, get_or}
use Rattle.answers.specs.Table.{pick}
use Rattle.answers.specs.Lent.{joined}
use Rattle.shown.specs.declared.lines.Pair.{Pair}
use Rattle.replies.specs.declared.reply.Reply.{Reply}
use Rattle.replies.specs.Places.{deviation_at, slot_at}
use Rattle.replies.specs.Reply.{reply}
use Rattle.replies.specs.ReplyText.{reply_text}

-- row, bits
abbrev pub deviation_reply : ℕ → ℕ → Reply
deviation_reply row bits = reply deviation_at row bits 0 0

-- as many as there are, up to a count
abbrev pub deviation_lines : ℕ → List ℕ → List ℕ
deviation_lines count ds = joined (min count (length ds)) (λ i. reply_text (deviation_reply i (get_or ds i 0)))

-- ---- the slots row by row, the first that of (0, 1): a row's last pair is followed by the first of the next row
abbrev pub pair : ℕ → ℕ → Pair
pair i j = record { i = i; j = j }

abbrev pub next_pair : ℕ → Pair → Pair
next_pair rows p = pick (ltb (p.j + 1) rows) (pair p.i (p.j + 1)) (pair (p.i + 1) (p.i + 2))

abbrev pub pair_at : ℕ → ℕ → Pair
pair_at rows zero = pair 0 1
pair_at rows (suc k) = next_pair rows (pair_at rows k)

-- i, j, state, bits
abbrev pub slot_reply : Pair → ℕ → ℕ → Reply
slot_reply p state bits = reply slot_at p.i p.j state bits

abbrev pub slot_lines : ℕ → ℕ → List ℕ → List ℕ → List ℕ
slot_lines rows count cs ss =
    joined (min (min count (length cs)) (length ss))
    (λ k. reply_text (slot_reply (pair_at rows k) (get_or ss k 0) (get_or cs k 0)))
