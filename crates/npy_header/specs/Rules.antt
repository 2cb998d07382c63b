-- Document 02, K8: what is refused of a header, on writing and on reading.
use Rattle.std.specs.Prelude.{ℕ, List, [], ◌∷◌, ltb}
use Rattle.answers.specs.Table.{Answer, answer, wholes, pick, passes, next, room_rule}
use Rattle.npy_header.specs.Header.{header_length, max_size, break_in}

-- N of more than nine digits: 3 with N, 0 and the most that nine spell
abbrev pub digits_rule : ℕ → Answer
digits_rule n = pick (ltb max_size n) (answer 3 (wholes (n ∷ 0 ∷ max_size ∷ []))) passes

-- and then the room: done carries the header's length
abbrev pub header_written : ℕ → ℕ → Answer
header_written n room = next (digits_rule n) (next (room_rule header_length room) (answer 0 (wholes (header_length ∷ []))))

-- the first byte that breaks the header: 11 with its offset
abbrev pub broken_at : ℕ → Answer
broken_at at = answer 11 (wholes (at ∷ []))

abbrev pub header_rule : List ℕ → Answer
header_rule file = pick (ltb (break_in file) header_length) (broken_at (break_in file)) passes
