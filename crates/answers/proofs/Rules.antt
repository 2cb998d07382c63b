-- Laws of `pick`, by which an order of rules is written.
-- Assumes nothing.
use mathlib.Core.Path.{◌≡◌, refl}
use mathlib.Core.Bool.{Bool, true, false}
use Rattle.answers.specs.Table.{pick}

-- what holds by either answer of a test holds of the pick
pub picked : {A : Type 0} (P : A → Type 0) (b : Bool) (x y : A) → (b ≡ true → P x) → (b ≡ false → P y) → P (pick b x y)
picked P true x y p q = p refl
picked P false x y p q = q refl

-- and what does not speak of it, by cases
pub by_bool : {A : Type 0} (b : Bool) → (b ≡ true → A) → (b ≡ false → A) → A
by_bool true p q = p refl
by_bool false p q = q refl
