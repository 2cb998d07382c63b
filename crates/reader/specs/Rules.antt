-- Document 01, "Reader's order", whole: a range that is lent, a) to l), and done.
use Rattle.std.specs.Prelude.{ℕ, List, [], ◌∷◌, Option, None}
use Rattle.answers.specs.Table.{Answer, answer, wholes, next}
use Rattle.layout.specs.Triangle.{slots_of}
use Rattle.layout.specs.declared.header.Head.{Head}
use Rattle.elements.specs.Elements.{head_of, deviation_count}
use Rattle.deviations.specs.declared.form.DeviationRange.{DeviationRange}
use Rattle.codes.specs.Store.{store_rules}

-- done carries N, the deviation count and M
abbrev pub done : Head → Answer
done h = answer 0 (wholes (h.n ∷ deviation_count h ∷ slots_of h.n ∷ []))

-- the reader's answer, over a range or none, given the rooms
abbrev pub read_answer_in : Option DeviationRange → List ℕ → ℕ → ℕ → ℕ → Answer
read_answer_in range bytes ds cs ss = next (store_rules range bytes ds cs ss) (done (head_of bytes))

-- over none
abbrev pub read_answer : List ℕ → ℕ → ℕ → ℕ → Answer
read_answer bytes ds cs ss = read_answer_in None bytes ds cs ss
