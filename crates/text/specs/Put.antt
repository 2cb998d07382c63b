-- What each part that puts text leaves.
use Rattle.std.specs.Prelude.{ℕ, ◌+◌, min, ◌≡◌, List, length}
use Rattle.std.proofs.lemmas.List.Edits.{sets}

-- the text from `at` on over l, as far as l goes, is l', and the place behind it is r
pub record Put (text : List ℕ) (at : ℕ) (l : List ℕ) (r : ℕ) (l' : List ℕ) : Type 0 where
  pub behind : r ≡ min (at + length text) (length l)
  pub stored : l' ≡ sets l at text
