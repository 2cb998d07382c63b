-- Of two numbers one is below the other, or not.
-- Assumes nothing.
use mathlib.Core.Logic.{◌⊎◌, inl, inr}
use Prim.Native.Nat.{ℕ, ◌≤◌, ◌<◌}
use borrow.Author.Tests.{ltb-true, ltb-false}
use lib.Dec.{ltb}
use Rattle.answers.proofs.Rules.{picked}

pub lt-or-le : (m n : ℕ) → (m < n) ⊎ (n ≤ m)
lt-or-le m n = picked (λ (_ : ℕ). (m < n) ⊎ (n ≤ m)) (ltb m n) 0 0 (λ t. inl (ltb-true m n t)) (λ f. inr (ltb-false m n f))
