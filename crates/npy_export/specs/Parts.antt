-- A row of the body in its parts: before the diagonal, and behind it.
use Rattle.std.specs.Prelude.{ℕ, ◌+◌, ◌-◌, List, get_or}
use Rattle.answers.specs.Lent.{joined}
use Rattle.numbers.specs.Words.{low_bytes_of}
use Rattle.layout.specs.Triangle.{slot_of}

-- the bytes of a slot
abbrev pub slot_bytes : List ℕ → ℕ → List ℕ
slot_bytes cs s = low_bytes_of 8 (get_or cs s 0)

module _ (n : ℕ) (cs : List ℕ) (i : ℕ) where
  abbrev pub left_bytes : List ℕ
  left_bytes = joined i (λ j. slot_bytes cs (slot_of n j i))

  abbrev pub right_bytes : List ℕ
  right_bytes = joined (n - 1 - i) (λ k. slot_bytes cs (slot_of n i (i + 1 + k)))
