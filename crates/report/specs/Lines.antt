-- The lines of a pack that was read, each as `lines` has it. Every line ends with a newline.
use Rattle.std.specs.Prelude.{ℕ, ◌+◌, ◌-◌, ◌≤◌, ◌≡◌, List, ◌++◌, length, take, get_or}
use Rattle.answers.specs.Lent.{joined}
use Rattle.layout.specs.Triangle.{slots_of, slot_of}
use Rattle.layout.specs.declared.pack.SdccFlp.{SdccFlp}
use Rattle.text.specs.Text.{ascii}
use Rattle.lines.specs.Lines.{n_line, c_line, deviation_lines}

-- more than this program reads
abbrev pub too_big_line : List ℕ
too_big_line = ascii "too big for this program\n"

-- ---- a pack that was read
-- the slots row by row: of row i those of j from i+1 to N-1
module _ (n : ℕ) (cs ss : List ℕ) where
  abbrev pub slot_line : ℕ → ℕ → List ℕ
  slot_line i j = c_line i j (get_or ss (slot_of n i j) 0) (get_or cs (slot_of n i j) 0)

  abbrev pub row_lines : ℕ → List ℕ
  row_lines i = joined (n - 1 - i) (λ k. slot_line i (i + 1 + k))

  abbrev pub slot_lines : List ℕ
  slot_lines = joined n row_lines

abbrev pub pack_lines : ℕ → List ℕ → List ℕ → List ℕ → List ℕ
pack_lines n ds cs ss = n_line n (length ds) (length cs) ++ deviation_lines ds ++ slot_lines n cs ss

-- ---- a pack whose numbers stand at the front of rooms that hold them
abbrev pub held_lines : SdccFlp → List ℕ → List ℕ → List ℕ → List ℕ
held_lines p ds cs ss =
    pack_lines p.matrix_size (take p.deviations ds) (take p.slots cs) (take p.slots ss)

abbrev pub Held : SdccFlp → List ℕ → List ℕ → List ℕ → Type 0
Held p ds cs ss =
    (slots_of p.matrix_size ≡ p.slots) × (p.deviations ≤ length ds)
    × (p.slots ≤ length cs) × (p.slots ≤ length ss)
