-- Lent memory with a mark in each entry, so that a change shows.
use Rattle.std.specs.Prelude.{◌≡◌, ℕ, Bool, true, false, List, [], ◌∷◌, ◌++◌, eqb, drop, take}
use Rattle.std.proofs.Math.ListN.{replicate}
use Rattle.answers.specs.Table.{pick}

-- of a byte, of a tag, and of a word
abbrev pub byte_mark : ℕ
byte_mark = 0xa5

abbrev pub tag_mark : ℕ
tag_mark = 0xa5a5a5a5

abbrev pub word_mark : ℕ
word_mark = 0xa5a5a5a5a5a5a5a5

-- so many entries with the mark, and what was there after them
abbrev pub marked : {T : Type 0} → T → ℕ → List T → List T
marked mark n lent = replicate n mark ++ drop n lent

-- whether an entry is without the mark, by the type's own test of equality
abbrev pub unmarked : {T : Type 0} → (T → T → Bool) → T → List T → Bool
unmarked eq mark [] = false
unmarked eq mark (entry ∷ entries) = pick (eq entry mark) (unmarked eq mark entries) true

-- whether one of the first, so many, is, from a place on
abbrev pub unmarked_in : {T : Type 0} → (T → T → Bool) → T → ℕ → ℕ → List T → Bool
unmarked_in eq mark from count lent = unmarked eq mark (drop from (take count lent))

-- the same of numbers
abbrev pub unmarked_from : ℕ → ℕ → ℕ → List ℕ → Bool
unmarked_from = unmarked_in eqb

-- a clone of the mark doesn't fail, and is the mark
abbrev pub IsClonedAs : {T : Type 0} → (T → Type 0) → (T → T → Type 0) → T → Type 0
IsClonedAs {T} infallible clone mark = infallible mark × ((y : T) → clone mark y → y ≡ mark)
