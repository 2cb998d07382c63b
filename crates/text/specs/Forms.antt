-- A form as text, for an end test and a text for each letter.
use Rattle.std.specs.Prelude.{ℕ, ◌+◌, ◌*◌, ◌/◌, Bool, leb, List, [], ◌∷◌, ◌++◌, length, get_or}
use Rattle.answers.specs.Table.{pick}

module _ (is_end : ℕ → Bool) (text_of : ℕ → List ℕ) where
  -- the letters of a form up to its end, each as its text
  abbrev pub spread : List ℕ → List ℕ
  spread [] = []
  spread (l ∷ ls) = pick (is_end l) [] (text_of l ++ spread ls)

-- the letter at a place of a form, in a table of rows of one width, and the mark past its row or past the last
abbrev pub letter_in : List ℕ → ℕ → ℕ → ℕ → ℕ → ℕ
letter_in table width mark form i =
    pick (leb width i) mark (pick (leb (length table / width) form) mark (get_or table (form * width + i) 0))
