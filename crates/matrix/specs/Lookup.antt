-- Document 01, "Lookup".
use Rattle.std.specs.Prelude.{ℕ, min, max, ◌&&◌, ◌||◌, List, [], ◌∷◌, eqb, leb, ltb, length, get_or, Err, Ok, Result}
use Rattle.answers.specs.Table.{Answer, answer, bits64, wholes, pick}
use Rattle.answers.specs.Listed.{listed}
use Rattle.layout.specs.declared.pack.SdccFlp.{SdccFlp}
use Rattle.layout.specs.Size.{max_rows}
use Rattle.layout.specs.Triangle.{slot_of}
use Rattle.answers.specs.declared.Refusal.{Refusal}

-- done carries the number
abbrev pub number : ℕ → Answer
number bits = answer 0 (bits64 bits ∷ [])

abbrev pub cell_listed : Result ℕ Refusal → Answer
cell_listed (Ok bits) = number bits
cell_listed (Err r) = listed r

-- 7 carries i and j
abbrev pub no_such_cell : ℕ → ℕ → Answer
no_such_cell i j = answer 7 (wholes (i ∷ j ∷ []))

-- the entry at a place below the pack's own count, if the lent values hold one there; otherwise 7
abbrev pub entry_answer : List ℕ → ℕ → ℕ → ℕ → ℕ → Answer
entry_answer lent count place i j =
    pick (ltb place count && ltb place (length lent)) (number (get_or lent place 0)) (no_such_cell i j)

-- the correlation either way round, and for i=j the deviation; N above the limit, or an index N or more: 7
abbrev pub cell_answer : SdccFlp → List ℕ → List ℕ → ℕ → ℕ → Answer
cell_answer p ds cs i j =
    pick (ltb max_rows p.matrix_size || leb p.matrix_size i || leb p.matrix_size j) (no_such_cell i j)
    (pick (eqb i j) (entry_answer ds p.deviations i i j)
    (entry_answer cs p.slots (slot_of p.matrix_size (min i j) (max i j)) i j))
