-- The slots of a row, one behind the other from its first.
-- Assumes nothing.
use mathlib.Core.Path.{◌≡◌}
use Prim.Native.Nat.{ℕ, ◌+◌, ◌-◌, ◌<◌}
use native.Mathlib.Omega.{arith}
use Rattle.layout.specs.Triangle.{slots_of, slot_of}
use Rattle.layout.proofs.RowByRow.{row-by-row, row-along}

module _ {n i j first : ℕ} (row : i < n) (e : first ≡ slot_of n i (i + 1)) (right : i < j) where
  -- the slot of (i, j), where j - 1 - i stand before it in its row
  pub slot_at : first + (j - 1 - i) ≡ slot_of n i (i + 1 + (j - 1 - i))
  slot_at = omega (arith, row-along n i (j - 1 - i) (omega arith))

  pub slot-below : j < n → first + (j - 1 - i) < slots_of n
  slot-below l = rw slot_at ((row-by-row n).below i (i + 1 + (j - 1 - i)) (omega arith, omega arith))
