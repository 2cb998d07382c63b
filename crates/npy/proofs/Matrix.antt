-- The slots of a file: how many stand before each row, and how many there are.
-- Assumes nothing.
use mathlib.Core.Path.{◌≡◌, sym, ap, ◌∙◌}
use mathlib.Core.List.{List}
use Prim.Native.Nat.{ℕ, zero, suc, ◌+◌, ◌-◌, ◌*◌, ◌≤◌}
use native.Mathlib.Numerals.{add-one}
use native.Mathlib.Omega.{arith}
use lib.ListN.{length, length-append}
use lib.Seq.{sets}
use Rattle.answers.specs.Lent.{joined}
use Rattle.answers.proofs.Lent.{length-tab}
use Rattle.answers.proofs.Stored.{sets_more}
use Rattle.layout.specs.Triangle.{slots_of, slot_of}
use Rattle.layout.proofs.RowByRow.{row_first, row_next}
use Rattle.npy.specs.Matrix.{entry_in, row_in, correlations_in}

-- behind the last row
last-slot : (n : ℕ) → slot_of n n (n + 1) ≡ slots_of n
unfolding slot_of slots_of
last-slot n = let e : 2 * n - n - 1 ≡ n - 1 = omega arith in rw e (omega arith)

module _ (file : List ℕ) (n : ℕ) where
  pub length-rows : (i : ℕ) → i ≤ n → length (joined i (row_in file n)) ≡ slot_of n i (i + 1)
  length-rows zero h = sym (row_first n)
  length-rows (suc i) h =
      let e : suc i ≡ i + 1 = omega arith in
      rw (length-append, length-rows i (omega arith), length-tab (n - 1 - i) (λ k. entry_in file n i (i + 1 + k)), e)
      (sym (row_next n i h))

  pub length-correlations : length (correlations_in file n) ≡ slots_of n
  unfolding correlations_in
  length-correlations = length-rows n (omega arith) ∙ last-slot n

  -- one row more is stored behind those before it
  pub stored_row : (l : List ℕ) (i first : ℕ) → i ≤ n → first ≡ slot_of n i (i + 1)
      → sets (sets l 0 (joined i (row_in file n))) first (row_in file n i) ≡ sets l 0 (joined (i + 1) (row_in file n))
  stored_row l i first h e =
      let p : 0 + length (joined i (row_in file n)) ≡ first = omega (arith, e, length-rows i h) in
      rw p at (sym (sets_more l 0 (joined i (row_in file n)) (row_in file n i)))
      ∙ ap (λ (k : ℕ). sets l 0 (joined k (row_in file n))) (sym (add-one i))
