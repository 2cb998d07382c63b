-- Document 01, "Writer's order", up to the last correlation; and what is known where nothing was refused.
use Rattle.std.specs.Prelude.{ℕ, ◌≤◌, not, List, [], ◌∷◌, T, eqb, ltb, length, get_or}
use Rattle.std.specs.Float.{binary64}
use Rattle.std.specs.Float.Ieee.{of_bits}
use Rattle.answers.specs.Table.{Answer, answer, wholes, pick, passes, next}
use Rattle.imapb.specs.Mapping.{in_range}
use Rattle.imapb.specs.Tables.{supported, range_rule}
use Rattle.layout.specs.Size.{max_rows}
use Rattle.layout.specs.Triangle.{slots_of}

-- N>256: 6. Correlation count not M: 3 with count, M, M. Clen not 1 to 8: 4
abbrev pub count_rules : ℕ → ℕ → ℕ → Answer
count_rules n count L =
    pick (ltb max_rows n) (answer 6 (wholes (n ∷ [])))
    (pick (not (eqb count (slots_of n))) (answer 3 (wholes (count ∷ slots_of n ∷ slots_of n ∷ [])))
    (pick (not (supported L)) (answer 4 (wholes (L ∷ [])))
    passes))

-- the first correlation that is NaN, infinite or outside -1 to 1: 3 with it, -1, 1
abbrev pub range_rules : List ℕ → Answer
range_rules [] = passes
range_rules (c ∷ cs) = next (range_rule c) (range_rules cs)

-- all that is refused before the pack's length is known
abbrev pub plan_rules : ℕ → List ℕ → ℕ → Answer
plan_rules n cs L = next (count_rules n (length cs) L) (range_rules cs)

-- ---- where nothing was refused
-- a length that has codes
abbrev pub Supported : ℕ → Type 0
Supported L = (1 ≤ L) × (L ≤ 8)

-- every correlation lies from -1 to 1
abbrev pub InRange : List ℕ → Type 0
InRange cs = (k : ℕ) → T (in_range (of_bits binary64 (get_or cs k 0)))
