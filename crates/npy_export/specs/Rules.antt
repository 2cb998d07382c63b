-- Document 02, K8: what export refuses, in its order, and what it answers otherwise.
use Rattle.std.specs.Prelude.{ℕ, [], ◌∷◌, eqb}
use Rattle.answers.specs.Table.{Answer, answer, wholes, pick, passes, next, room_rule}
use Rattle.layout.specs.Size.{limit_rule}
use Rattle.layout.specs.Triangle.{slots_of}
use Rattle.npy_export.specs.File.{file_length}

-- a count that is not the one expected: 2 with both
abbrev pub count_rule : ℕ → ℕ → Answer
count_rule expected got = pick (eqb expected got) passes (answer 2 (wholes (expected ∷ got ∷ [])))

-- of so many deviations and correlations, given the room
-- N above the limit: 3; then the deviation count, which is to be N, and the correlation count, which is to be M; then 5
abbrev pub export_rules : ℕ → ℕ → ℕ → ℕ → Answer
export_rules n ds cs room =
    next (limit_rule n) (next (count_rule n ds) (next (count_rule (slots_of n) cs) (room_rule (file_length n) room)))

-- done carries the file's length
abbrev pub export_answer : ℕ → ℕ → ℕ → ℕ → Answer
export_answer n ds cs room = next (export_rules n ds cs room) (answer 0 (wholes (file_length n ∷ [])))
