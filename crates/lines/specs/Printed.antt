-- A program's text, printed into lent memory that must have room for any.
use Rattle.std.specs.Prelude.{ℕ, List, [], ◌∷◌, ltb, length}
use Rattle.answers.specs.Table.{Answer, answer, wholes, pick}

-- less room: 5; otherwise done, with the text's length
abbrev pub print_answer : ℕ → List ℕ → ℕ → Answer
print_answer room text got =
    pick (ltb got room) (answer 5 (wholes (room ∷ got ∷ []))) (answer 0 (wholes (length text ∷ [])))
