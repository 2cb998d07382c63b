-- The slots of a pack in either form, sparse or full, from ST 1010.3: elements 3 and 5.
use Rattle.std.specs.Prelude.{ℕ, ◌+◌, ◌*◌, Bool, not, ◌&&◌, List, [], length, get_or}
use Rattle.std.specs.Float.{binary64}
use Rattle.std.specs.Float.Ieee.{of_bits}
use Rattle.answers.specs.Table.{pick}
use Rattle.answers.specs.Lent.{tab, joined}
use Rattle.numbers.specs.Digits.{spelt}
use Rattle.numbers.specs.Words.{bytes_of}
use Rattle.imapb.specs.Mapping.{code_of}
use Rattle.layout.specs.Triangle.{bit_bytes}
use Rattle.plan.specs.Zero.{is_zero}

-- a correlation's code of L bytes
abbrev pub coded : ℕ → ℕ → List ℕ
coded L c = bytes_of L (code_of L (of_bits binary64 c))

module _ (sparse : Bool) (cs : List ℕ) where
  -- a sparse pack leaves zeros out
  abbrev pub sent : ℕ → Bool
  sent k = not (sparse && is_zero (get_or cs k 0))

  -- the byte of eight slots from slot `from` on: a bit to a slot, the high bit first; those past the last slot are 0
  abbrev pub eight_bits : ℕ → ℕ
  eight_bits from = spelt 2 0 (tab 8 (λ j. pick (sent (from + j)) 1 0))

  -- element 3, of a sparse pack: the Bit Vector
  abbrev pub vector_byte : ℕ → ℕ
  vector_byte i = eight_bits (8 * i)

  abbrev pub element3 : List ℕ
  element3 = pick sparse (tab (bit_bytes (length cs)) vector_byte) []

  -- element 5: the code of each correlation that is sent
  abbrev pub code_bytes : ℕ → ℕ → List ℕ
  code_bytes L k = pick (sent k) (coded L (get_or cs k 0)) []

  abbrev pub element5 : ℕ → List ℕ
  element5 L = joined (length cs) (code_bytes L)
