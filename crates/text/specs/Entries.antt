-- Lists of numbers as a line spells them: each entry stands behind a space.
use Rattle.std.specs.Prelude.{ℕ, Option, Some, zero, suc, List, [], ◌∷◌}
use Rattle.text.specs.declared.numeral.Entry.{Entry}
use Rattle.text.specs.declared.numeral.Numeral.{Numeral}
use Rattle.text.specs.Numeral.{numeral, whether, then, decimal_up_to, spaced_at}

-- the entries that are left of so many: where they are read, the value is how many there were
abbrev pub entries_from : Entry → ℕ → ℕ → List ℕ → ℕ → Option Numeral
entries_from entry zero count line at = Some (numeral count at)
entries_from entry (suc left) count line at =
    then (spaced_at entry line at) (λ _ next. entries_from entry left count line next)

abbrev pub entries_at : Entry → ℕ → List ℕ → ℕ → Option Numeral
entries_at entry count line at = entries_from entry count count line at

-- the entries themselves, up to the first that is none
abbrev pub numbers_at : Entry → ℕ → List ℕ → ℕ → List ℕ
numbers_at entry zero line at = []
numbers_at entry (suc left) line at =
    whether (spaced_at entry line at) (λ value next. value ∷ numbers_at entry left line next) []

-- ---- a list: how many entries, at most `most`, and then they
abbrev pub list_at : Entry → ℕ → List ℕ → ℕ → Option Numeral
list_at entry most line at = then (decimal_up_to most line at) (λ count next. entries_at entry count line next)

abbrev pub listed_at : Entry → ℕ → List ℕ → ℕ → List ℕ
listed_at entry most line at = whether (decimal_up_to most line at) (λ count next. numbers_at entry count line next) []
