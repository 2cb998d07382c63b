-- Which form a line has.
use Rattle.std.specs.Prelude.{ℕ, zero, suc, ◌+◌, Bool, true, false, List, [], ◌∷◌, eqb}
use Rattle.answers.specs.Table.{pick}
use Rattle.replies.specs.Forms.{letter_of, is_field}
use Rattle.replies.specs.Places.{bad_request}

-- what is left of the line, from the form's letter i on: the words are the same up to the first field
abbrev pub begins_from : ℕ → ℕ → List ℕ → Bool
begins_from form i [] = false
begins_from form i (b ∷ bs) =
    pick (is_field (letter_of form i)) true (pick (eqb b (letter_of form i)) (begins_from form (i + 1) bs) false)

abbrev pub begins_as : ℕ → List ℕ → Bool
begins_as form line = begins_from form 0 line

-- the first form that the line begins as, of so many from one on, and what comes behind them where there is none
abbrev pub first_from : ℕ → ℕ → List ℕ → ℕ
first_from zero form line = form
first_from (suc left) form line = pick (begins_as form line) form (first_from left (form + 1) line)

-- the requests are the first forms, and the next is a bad request
abbrev pub form_of : List ℕ → ℕ
form_of line = first_from bad_request 0 line
