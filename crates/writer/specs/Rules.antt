-- Document 01, "Writer's order".
use Rattle.std.specs.Prelude.{ℕ, List, [], ◌∷◌, length}
use Rattle.answers.specs.Table.{Answer, answer, wholes, next, room_rule}
use Rattle.plan.specs.Rules.{count_rules, range_rules}
use Rattle.writer.specs.Pack.{pack_bytes}

-- the writer that takes no Clen uses this one
abbrev pub default_clen : ℕ
default_clen = 2

-- the writer's answer, given the room: done carries the pack's length
abbrev pub write_answer : List ℕ → List ℕ → ℕ → ℕ → Answer
write_answer ds cs L room =
    next (count_rules (length ds) (length cs) L)
    (next (range_rules cs)
    (next (room_rule (length (pack_bytes ds cs L)) room)
    (answer 0 (wholes (length (pack_bytes ds cs L) ∷ [])))))
