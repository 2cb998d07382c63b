-- Lookup, case by case.
-- Assumes nothing.
use mathlib.Core.Path.{◌≡◌}
use mathlib.Core.Bool.{or-true}
use mathlib.Core.List.{List}
use Prim.Native.Nat.{ℕ, min, max, ◌≤◌, ◌<◌}
use lib.ListN.{length, get_or}
use borrow.Author.Tests.{lt-ltb, le-ltb, le-leb, lt-leb, eq-eqb, ne_eqb}
use Rattle.layout.specs.declared.pack.SdccFlp.{SdccFlp}
use Rattle.layout.specs.Size.{max_rows}
use Rattle.layout.specs.Triangle.{slot_of}
use Rattle.matrix.specs.Lookup.{number, no_such_cell, entry_answer, cell_answer}

-- an entry that is there
pub entry-held : (lent : List ℕ) (count place i j : ℕ) → place < count → place < length lent
    → entry_answer lent count place i j ≡ number (get_or lent place 0)
entry-held lent count place i j h l = rw (lt-ltb place count h, lt-ltb place (length lent) l)

-- and one that the pack does not count
pub entry-none : (lent : List ℕ) (count place i j : ℕ) → count ≤ place → entry_answer lent count place i j ≡ no_such_cell i j
entry-none lent count place i j h = rw (le-ltb place count h)

module _ (p : SdccFlp) (ds cs : List ℕ) (i j : ℕ) where
  -- N
  abbrev n : ℕ
  n = p.matrix_size

  -- N above the limit
  pub too_many : max_rows < n → cell_answer p ds cs i j ≡ no_such_cell i j
  too_many h = rw (lt-ltb max_rows n h)

  -- an index N or more
  pub no-row : n ≤ i → cell_answer p ds cs i j ≡ no_such_cell i j
  no-row h = rw (le-leb n i h, or-true)

  pub no-column : n ≤ j → cell_answer p ds cs i j ≡ no_such_cell i j
  no-column h = rw (le-leb n j h, or-true)

  module _ (rows : n ≤ max_rows) (row : i < n) (column : j < n) where
    -- a deviation
    pub diagonal : i ≡ j → cell_answer p ds cs i j ≡ entry_answer ds p.deviations i i j
    diagonal e = rw (le-ltb max_rows n rows, lt-leb n i row, lt-leb n j column, eq-eqb i j e)

    -- a correlation
    pub pair : (i ≡ j → ⊥) → cell_answer p ds cs i j ≡ entry_answer cs p.slots (slot_of n (min i j) (max i j)) i j
    pair e = rw (le-ltb max_rows n rows, lt-leb n i row, lt-leb n j column, ne_eqb i j e)
