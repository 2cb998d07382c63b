-- `words::write_be` meets its contract. The invariant: with the digits that are left, the part is what it is to be.
use mathlib.Core.Path.{◌∙◌}
use mathlib.Core.List.{append-nil}
use native.Mathlib.Omega.{arith}
use lib.Seq.{drop-length}
use Rattle.numbers.specs.Words.{bytes_of}
use Rattle.numbers.proofs.Digits.{back_done}
use Rattle.numbers.proofs.words.write_be.Goals as goal

pub returns : goal.returns
unfolding bytes_of
returns c = back_done c.loop-i.invariant (omega arith) ∙ rw drop-length (append-nil _)
