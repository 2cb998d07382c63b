-- The rule of a table at each entry: that the table is the list of the rule's values, which antt computes once, gives
-- it.
-- Assumes nothing.
use mathlib.Core.Path.{◌≡◌, ◌∙◌, ap}
use mathlib.Core.List.{List, [], ◌∷◌}
use Prim.Native.Nat.{ℕ, zero, suc, ◌+◌, ◌<◌}
use native.Mathlib.Omega.{arith}
use lib.ListN.{get_or}

module _ {A : Type 0} (rule : ℕ → A) where
  -- n values, from i on
  abbrev pub ruled : ℕ → ℕ → List A
  ruled zero i = []
  ruled (suc n) i = rule i ∷ ruled n (suc i)

  pub ruled-at : (d : A) (n i k : ℕ) → k < n → get_or (ruled n i) k d ≡ rule (i + k)
  ruled-at d zero i k h = absurd (omega arith)
  ruled-at d (suc n) i zero h = ap rule (omega arith)
  ruled-at d (suc n) i (suc k) h = ruled-at d n (suc i) k (omega arith) ∙ ap rule (omega arith)
