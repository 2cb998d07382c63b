-- The pair of slot k stays within k.
-- Assumes nothing.
use mathlib.Core.Bool.{Bool, true, false}
use Prim.Native.Nat.{ℕ, zero, suc, ◌+◌, ◌≤◌}
use native.Mathlib.Omega.{arith}
use lib.Dec.{ltb}
use Rattle.answers.specs.Table.{pick}
use Rattle.shown.specs.declared.lines.Pair.{Pair}
use Rattle.shown.specs.Lines.{pair, pair_at}

abbrev Within : ℕ → Pair → Type 0
Within k p = (p.i ≤ k) × (p.j ≤ k + 1)

next-within : (t : Bool) (k : ℕ) (p : Pair) → Within k p
    → Within (suc k) (pick t (pair p.i (p.j + 1)) (pair (p.i + 1) (p.i + 2)))
next-within true k p h = (omega arith, omega arith)
next-within false k p h = (omega arith, omega arith)

pub pair-within : (rows k : ℕ) → ((pair_at rows k).i ≤ k) × ((pair_at rows k).j ≤ k + 1)
pair-within rows zero = (omega arith, omega arith)
pair-within rows (suc k) =
    next-within (ltb ((pair_at rows k).j + 1) rows) k (pair_at rows k) (pair-within rows k)
