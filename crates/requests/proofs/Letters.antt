-- A letter of two that stand next to each other.
-- Assumes nothing.
use mathlib.Core.Path.{◌≡◌}
use mathlib.Core.Logic.{◌⊎◌, inl, inr, ⊎_elim}
use Prim.Native.Nat.{ℕ, suc, ◌<◌, ◌≤◌}
use native.Mathlib.Omega.{arith}
use Rattle.text.proofs.Order.{lt-or-le}

pub one_of_two : (a x : ℕ) → a ≤ x → x ≤ suc a → (x ≡ a) ⊎ (x ≡ suc a)
one_of_two a x h k =
    ⊎_elim (λ (l : x < suc a). inl (omega arith)) (λ (l : suc a ≤ x). inr (omega arith)) (lt-or-le x (suc a))
