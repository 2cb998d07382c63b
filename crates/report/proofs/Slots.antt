-- The lines of the slots that stand in a list's front.
-- Assumes nothing.
use mathlib.Core.Path.{◌≡◌}
use mathlib.Core.List.{List}
use Prim.Native.Nat.{ℕ, ◌+◌, ◌-◌, ◌≤◌, ◌<◌}
use native.Mathlib.Omega.{arith}
use lib.ListN.{take}
use lib.Seq.{get_or-take}
use Rattle.answers.proofs.Joined.{joined_same}
use Rattle.layout.specs.Triangle.{slots_of, slot_of}
use Rattle.layout.proofs.RowByRow.{row-by-row}
use Rattle.report.specs.Lines.{row_lines, slot_lines}

-- a list's front that holds all slots gives the same lines
module _ (n m : ℕ) (cs ss : List ℕ) (h : slots_of n ≤ m) where
  row-front : (i : ℕ) → i < n → row_lines n (take m cs) (take m ss) i ≡ row_lines n cs ss i
  row-front i l =
      joined_same (n - 1 - i)
      (λ k q.
      let b : slot_of n i (i + 1 + k) < m = omega (arith, (row-by-row n).below i (i + 1 + k) (omega arith, omega arith)) in
      rw (get_or-take m ss (slot_of n i (i + 1 + k)) 0 b, get_or-take m cs (slot_of n i (i + 1 + k)) 0 b))

  pub slots-front : slot_lines n (take m cs) (take m ss) ≡ slot_lines n cs ss
  slots-front = joined_same n row-front
