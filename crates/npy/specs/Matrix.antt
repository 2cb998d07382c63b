-- Document 02, K8: the entries of a .npy file, and the matrix that they are.
use Rattle.std.specs.Prelude.{ℕ, ◌+◌, ◌-◌, ◌*◌, List}
use Rattle.answers.specs.Lent.{tab, joined}
use Rattle.numbers.specs.Words.{low_word_of}
use Rattle.layout.specs.Triangle.{slots_of}
use Rattle.elements.specs.Elements.{part}
use Rattle.npy_header.specs.Header.{header_length}

-- where entry (i,j) of n rows starts
abbrev pub place_of : ℕ → ℕ → ℕ → ℕ
place_of n i j = header_length + 8 * (i * n + j)

module _ (file : List ℕ) (n : ℕ) where
  abbrev pub entry_in : ℕ → ℕ → ℕ
  entry_in i j = low_word_of (part file (place_of n i j) 8)

  abbrev pub deviations_in : List ℕ
  deviations_in = tab n (λ i. entry_in i i)

  -- of row i those of j from i+1 to N-1
  abbrev pub row_in : ℕ → List ℕ
  row_in i = tab (n - 1 - i) (λ k. entry_in i (i + 1 + k))

  unfoldable pub correlations_in : List ℕ
  correlations_in = joined n row_in

  -- every slot is a value
  abbrev pub states_in : List ℕ
  states_in = tab (slots_of n) (λ _. 1)
