-- A refusal's row as data: what `listed` says, with room for three values.
use Rattle.std.specs.Prelude.{ℕ, Bool, true, false, List, [], ◌∷◌, length, get_or, take}
use Rattle.answers.specs.declared.Refusal.{Refusal}
use Rattle.answers.specs.declared.row.Row.{Row}
use Rattle.answers.specs.Listed.{listed}
use Rattle.answers.specs.Table.{Entry, whole, bits64, Answer, answer, wholes, pick, plains}

abbrev pub row : ℕ → ℕ → List ℕ → Bool → Row
row number count values floats = record { number = number; count = count; values = values; floats = floats }

-- whether the entries are the bits of binary64 numbers
abbrev pub are_floats : List Entry → Bool
are_floats [] = false
are_floats (whole n ∷ es) = false
are_floats (bits64 b ∷ es) = true

-- values that an answer does not carry are 0
abbrev pub three : List ℕ → List ℕ
three ns = get_or ns 0 0 ∷ get_or ns 1 0 ∷ get_or ns 2 0 ∷ []

abbrev pub row_for : Answer → Row
row_for a = row a.number (length a.carries) (three (plains a.carries)) (are_floats a.carries)

abbrev pub row_of : Refusal → Row
row_of r = row_for (listed r)

-- ---- what a row lists: its number, and so many of its values, as whole numbers or as binary64
abbrev pub floats64 : List ℕ → List Entry
floats64 [] = []
floats64 (b ∷ bs) = bits64 b ∷ floats64 bs

abbrev pub values_of : Row → List ℕ
values_of r = take r.count r.values

abbrev pub listed_row : Row → Answer
listed_row r = answer r.number (pick r.floats (floats64 (values_of r)) (wholes (values_of r)))
