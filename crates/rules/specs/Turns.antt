-- Rules h) and j), by their first element.
use Rattle.std.specs.Prelude.{ℕ, ◌*◌, ◌%◌, eqb, ltb}
use Rattle.answers.specs.Table.{Answer, short, pick, passes, next}

-- the first element's answer tells of the others; where it passes, only their bytes can be short, and those before the one
-- that is short are whole
abbrev pub turns_rule : Answer → ℕ → ℕ → ℕ → Answer
turns_rule first count size left =
    pick (eqb count 0) passes
    (next first (pick (ltb left (count * size)) (short size (left % size)) passes))
