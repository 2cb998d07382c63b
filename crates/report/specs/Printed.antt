-- Document 01, "The program": which lines are printed for which input.
use Rattle.std.specs.Prelude.{ℕ, Bool, false, ◌||◌, List, ltb, length, None, Some, Option}
use Rattle.answers.specs.Table.{pick}
use Rattle.layout.specs.Size.{peeked}
use Rattle.reader.specs.Rules.{read_answer}
use Rattle.report.specs.Lines.{too_big_line}
use Rattle.report.specs.Answer.{answer_lines}

-- the most that is read: so many bytes, and so many rows, which have so many slots
abbrev pub max_bytes : ℕ
max_bytes = 20480

abbrev pub max_rows : ℕ
max_rows = 64

abbrev pub max_slots : ℕ
max_slots = 2016

-- an N that peek gives
abbrev pub is_large : Option ℕ → Bool
is_large (Some n) = ltb max_rows n
is_large None = false

module _ (bytes : List ℕ) where
  abbrev pub is_too_big : Bool
  is_too_big = ltb max_bytes (length bytes) || is_large (peeked bytes)

  -- the reader's answer, where it is lent room for so many
  abbrev pub read_lines : List ℕ
  read_lines = answer_lines bytes (read_answer bytes max_rows max_slots max_slots)

  unfoldable pub printed : List ℕ
  printed = pick is_too_big too_big_line read_lines

-- ---- printed into lent memory
-- the room that is asked for, whatever is printed
abbrev pub room : ℕ
room = 65536
