-- `number::ieee_at` meets its contract.
use mathlib.Core.Path.{◌≡◌}
use mathlib.Core.List.{List}
use Prim.Native.Nat.{ℕ, ◌^◌, ◌<◌}
use native.Mathlib.Nat.{add-sub_cancel_left}
use native.Mathlib.Omega.{arith}
use lib.ListN.{length, length-take, length-drop}
use Rattle.numbers.specs.Words.{word_of}
use Rattle.numbers.proofs.Bytes.{word_lt}
use Rattle.elements.specs.Elements.{part}
use Rattle.elements.proofs.number.ieee_at.Goals as goal
use Rattle.elements.proofs.number.ieee_at.Goals.{After-read_be}

-- four bytes hold 32 bits
word-32 : (l : List ℕ) → length l ≡ 4 → word_of l < 2 ^ 32
word-32 l e = rw e at (word_lt l (omega arith))

-- the part is the four bytes
read : (c : After-read_be) → let a = c.args in c.read_be.result ≡ word_of (part a.bytes.now a.at 4)
read c = rw (add-sub_cancel_left c.args.at 4) at c.read_be.ensures

pub overflow_cast-read_be : goal.overflow_cast-read_be
overflow_cast-read_be c =
    let a = c.args in
    omega (arith, read c, word-32 (part a.bytes.now a.at 4) (simp (length-take, length-drop) (omega arith)))
