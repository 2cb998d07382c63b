-- Document 02, K8: what export and import make of each other, and what a file shows of the matrix that it was made of.
use Rattle.std.specs.Prelude.{ℕ, ◌^◌, ◌≤◌, ◌<◌, ◌≡◌, List, [], ◌∷◌, length, get_or}
use Rattle.answers.specs.Table.{answer, wholes}
use Rattle.answers.specs.Lent.{tab}
use Rattle.numbers.specs.Digits.{Below}
use Rattle.layout.specs.declared.pack.SdccFlp.{SdccFlp}
use Rattle.layout.specs.Size.{max_rows}
use Rattle.layout.specs.Triangle.{slots_of, slot_of, IsPair}
use Rattle.matrix.specs.Lookup.{number, cell_answer}
use Rattle.npy_header.specs.Header.{size_in}
use Rattle.npy_export.specs.File.{file_length, file_of}
use Rattle.npy.specs.Matrix.{entry_in, deviations_in, correlations_in, states_in}
use Rattle.npy_export.specs.Rules.{export_answer}
use Rattle.npy.specs.Rules.{import_answer}

-- ---- from a matrix: n rows, with a deviation to each and a correlation to each pair
module _ (n : ℕ) (ds cs : List ℕ) where
  -- the numbers are any 64 bits, NaNs too
  pub record IsMatrix : Type 0 where
    pub few : n ≤ max_rows
    pub deviations : length ds ≡ n
    pub correlations : length cs ≡ slots_of n
    pub deviation-bits : Below (2 ^ 64) ds
    pub correlation-bits : Below (2 ^ 64) cs

  abbrev pub pack_for : SdccFlp
  pack_for = record { matrix_size = n; deviations = n; slots = slots_of n }

  -- export and then import: both succeed, given room enough, and every bit comes back, with every state 1
  pub record ExportImport : Type 0 where
    pub exports : (room : ℕ) → file_length n ≤ room
        → export_answer n (length ds) (length cs) room ≡ answer 0 (wholes (length (file_of n ds cs) ∷ []))
    pub imports : (d c s : ℕ) → n ≤ d → slots_of n ≤ c → slots_of n ≤ s
        → import_answer (file_of n ds cs) d c s ≡ answer 0 (wholes (n ∷ n ∷ slots_of n ∷ []))
    pub deviations : deviations_in (file_of n ds cs) (size_in (file_of n ds cs)) ≡ ds
    pub correlations : correlations_in (file_of n ds cs) (size_in (file_of n ds cs)) ≡ cs
    pub states : states_in (file_of n ds cs) (size_in (file_of n ds cs)) ≡ tab (length cs) (λ _. 1)

  -- the entries of the file
  pub record Shown : Type 0 where
    -- the diagonal is the deviations
    pub diagonal : (i : ℕ) → i < n → entry_in (file_of n ds cs) n i i ≡ get_or ds i 0
    -- (i,j) and (j,i) both hold slot (i,j)
    pub pair : (i j : ℕ) → IsPair n i j → entry_in (file_of n ds cs) n i j ≡ get_or cs (slot_of n i j) 0
    pub turned : (i j : ℕ) → IsPair n i j → entry_in (file_of n ds cs) n j i ≡ get_or cs (slot_of n i j) 0
    -- looking (i,j) up in what was exported gives the file's entry (i,j)
    pub looked-up : (i j : ℕ) → i < n → j < n → cell_answer pack_for ds cs i j ≡ number (entry_in (file_of n ds cs) n i j)

-- ---- from a file that import takes: exported again it is the same file
pub record ImportExport (file : List ℕ) : Type 0 where
  pub exports :
      export_answer (size_in file) (length (deviations_in file (size_in file)))
      (length (correlations_in file (size_in file))) (length file)
      ≡ answer 0 (wholes (length file ∷ []))
  pub same : file_of (size_in file) (deviations_in file (size_in file)) (correlations_in file (size_in file)) ≡ file
