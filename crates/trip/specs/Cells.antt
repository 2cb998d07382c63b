-- What looking a cell up gives, in what the reader left of the lent lists.
use Rattle.std.specs.Prelude.{ℕ, ◌≤◌, ◌<◌, ◌≡◌, List}
use Rattle.answers.specs.Table.{Answer}
use Rattle.answers.specs.Lent.{over}
use Rattle.layout.specs.Header.{said_size, control_of, body_at}
use Rattle.layout.specs.Triangle.{slot_of, IsPair}
use Rattle.elements.specs.Elements.{head_of, deviations_at, codes_at}
use Rattle.elements.specs.Elements.{deviation_in, slot_in, deviations, correlations}
use Rattle.elements.specs.Listed.{pack_of}
use Rattle.matrix.specs.Lookup.{number, no_such_cell, cell_answer}

module _ (bytes : List ℕ) where
  -- the numbers of the pack, by its bytes
  abbrev pub deviation_read : ℕ → ℕ
  deviation_read i = deviation_in bytes (deviations_at (head_of bytes)) (control_of bytes) i

  abbrev pub slot_read : ℕ → ℕ
  slot_read k = (slot_in bytes (body_at bytes) (codes_at (head_of bytes)) (control_of bytes) k).bits

  module _ (ds₀ cs₀ : List ℕ) where
    -- the cell of the pack, over lists that held ds₀ and cs₀ before it was read
    abbrev pub cell_read : ℕ → ℕ → Answer
    cell_read i j =
        cell_answer (pack_of (head_of bytes)) (over (deviations bytes (head_of bytes)) ds₀)
        (over (correlations bytes (head_of bytes)) cs₀) i j

    pub record CellsRead : Type 0 where
      -- a correlation, either way round
      pub pair : (i j : ℕ) → IsPair (said_size bytes) i j
          → cell_read i j ≡ number (slot_read (slot_of (said_size bytes) i j))
      pub turned : (i j : ℕ) → IsPair (said_size bytes) i j
          → cell_read j i ≡ number (slot_read (slot_of (said_size bytes) i j))
      -- a deviation, unless Slen=0
      pub diagonal : (i : ℕ) → i < said_size bytes → ((control_of bytes).slen ≡ 0 → ⊥)
          → cell_read i i ≡ number (deviation_read i)
      pub none : (i : ℕ) → i < said_size bytes → (control_of bytes).slen ≡ 0 → cell_read i i ≡ no_such_cell i i
      -- an index N or more
      pub no_row : (i j : ℕ) → said_size bytes ≤ i → cell_read i j ≡ no_such_cell i j
      pub no_column : (i j : ℕ) → said_size bytes ≤ j → cell_read i j ≡ no_such_cell i j
