-- Document 02, K8: a matrix as a .npy file, deviations on the diagonal, correlations on both sides.
use Rattle.std.specs.Prelude.{ℕ, min, max, ◌+◌, ◌*◌, List, ◌++◌, eqb, get_or}
use Rattle.answers.specs.Table.{pick}
use Rattle.answers.specs.Lent.{joined}
use Rattle.numbers.specs.Words.{low_bytes_of}
use Rattle.layout.specs.Triangle.{slot_of}
use Rattle.npy_header.specs.Header.{header_length, header}

abbrev pub body_length : ℕ → ℕ
body_length n = 8 * (n * n)

abbrev pub file_length : ℕ → ℕ
file_length n = header_length + body_length n

-- the file of a matrix of n rows
module _ (n : ℕ) (ds cs : List ℕ) where
  -- entry (i,j), by the numbering of the slots either way round
  abbrev pub entry_of : ℕ → ℕ → ℕ
  entry_of i j = pick (eqb i j) (get_or ds i 0) (get_or cs (slot_of n (min i j) (max i j)) 0)

  -- a binary64 is eight bytes, the low one first
  abbrev pub entry_bytes : ℕ → ℕ → List ℕ
  entry_bytes i j = low_bytes_of 8 (entry_of i j)

  abbrev pub row_bytes : ℕ → List ℕ
  row_bytes i = joined n (entry_bytes i)

  -- row by row
  unfoldable pub body_of : List ℕ
  body_of = joined n row_bytes

  abbrev pub file_of : List ℕ
  file_of = header n ++ body_of
