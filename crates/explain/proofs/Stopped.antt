-- The place of rules h) and j): the first element in turn that is refused, from the answer alone.
-- Assumes nothing.
use mathlib.Core.Path.{◌≡◌, refl}
use mathlib.Core.List.{List}
use Prim.Native.Nat.{ℕ, zero, suc, ◌+◌, ◌-◌, ◌*◌, ◌≤◌}
use native.Mathlib.Omega.{arith}
use native.Mathlib.Nat.{zero-mul}
use borrow.Author.Tests.{eqb-true, ne_eqb}
use lib.Dec.{eqb, ltb}
use lib.ListN.{length}
use Rattle.answers.specs.Table.{Answer, short}
use Rattle.answers.proofs.Rules.{picked, by_bool}
use Rattle.elements.specs.Numbers.{element_rule}
use Rattle.rules.specs.Rules.{in_turn}
use Rattle.rules.proofs.Held.{turns-held}
use Rattle.explain.specs.Explained.{refused_at}
use Rattle.explain.specs.Found.{stopped_at}

module _ (bytes : List ℕ) (at size : ℕ) (format : Answer) where
  abbrev turns : ℕ → Answer
  turns n = in_turn bytes at size (λ _. format) n

  abbrev place : ℕ → ℕ
  place n = at + n * size

  -- the first whose format is refused is the first of all, since all have the same
  first-bad : at ≤ length bytes → (format.number ≡ 0 → ⊥) → (n : ℕ) → (turns n).number ≡ 0 → place n ≡ at
  first-bad w r zero z = omega (arith, zero-mul size)
  first-bad w r (suc n) z = absurd (r ((turns-held bytes at size (λ _. format) (suc n) w z).1 n (omega arith)))

  -- the start of the first that is refused: one that is short reaches to the end
  pub stopped : (format.number ≡ 1 → ⊥) → at ≤ length bytes → (n : ℕ) → ((turns n).number ≡ 0 → ⊥)
      → refused_at bytes at size (λ _. format) n ≡ stopped_at (length bytes) at (turns n)
  stopped o w zero r = absurd (r refl)
  stopped o w (suc n) r =
      by_bool (eqb (turns n).number 0) (λ t. rw t (here (eqb-true (turns n).number 0 t) (rw t at r)))
      (λ t. rw t (stopped o w n (rw t at r)))
    where
      here : (turns n).number ≡ 0 → ((element_rule bytes (place n) size format).number ≡ 0 → ⊥)
          → place n ≡ stopped_at (length bytes) at (element_rule bytes (place n) size format)
      here z =
          picked (λ a. (a.number ≡ 0 → ⊥) → place n ≡ stopped_at (length bytes) at a) (ltb (length bytes - place n) size)
          (short size (length bytes - place n)) format
          (λ _ _. omega (arith, (turns-held bytes at size (λ _. format) n w z).0))
          (λ _ r. rw (ne_eqb format.number 1 o) (first-bad w r n z))
