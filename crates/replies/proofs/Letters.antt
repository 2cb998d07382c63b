-- What a form's letters are not, and what ends it.
-- Assumes nothing.
use mathlib.Core.Path.{◌≡◌, refl}
use mathlib.Core.Bool.{true, false, ◌||◌}
use mathlib.Core.List.{[], ◌∷◌}
use mathlib.Core.Logic.{inl, inr}
use Prim.Native.Nat.{ℕ}
use borrow.Author.Tests.{ne_eqb}
use lib.Dec.{eqb}
use types.Run.{OneOf}
use Rattle.replies.specs.ReplyText.{is_end}

pub neither : (a b x : ℕ) → (OneOf (a ∷ b ∷ []) x → ⊥) → eqb x a || eqb x b ≡ false
neither a b x h = rw (ne_eqb x a (λ e. h (inl e)), ne_eqb x b (λ e. h (inr e)))

pub dot-ends : is_end 0x2e ≡ true
unfolding is_end
dot-ends = refl
