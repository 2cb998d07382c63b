-- The bytes of an element that are there, and what it then is.
-- Assumes nothing.
use mathlib.Core.Path.{◌≡◌}
use mathlib.Core.List.{List}
use Prim.Native.Nat.{ℕ, ◌+◌, ◌-◌, ◌*◌, ◌≤◌, ◌<◌}
use native.Mathlib.Nat.{suc-mul, mul-le-mul_right}
use native.Mathlib.Omega.{arith}
use borrow.Author.Tests.{le-ltb}
use lib.ListN.{length, length-take, length-drop}
use Rattle.answers.specs.Outcome.{found}
use Rattle.answers.specs.Table.{Answer}
use Rattle.elements.specs.Elements.{part}
use Rattle.elements.specs.Numbers.{element}

pub part-whole : (bytes : List ℕ) (at size : ℕ) → size ≤ length bytes - at → length (part bytes at size) ≡ size
part-whole bytes at size h = simp (length-take, length-drop) (omega arith)

-- an element that ends within the bytes, in a format that is read
pub element-held : (bytes : List ℕ) (at size : ℕ) (format : Answer) {A : Type 0} (value : A) → at + size ≤ length bytes → format.number ≡ 0
    → element bytes at size format value ≡ found value
element-held bytes at size format value h f = rw (le-ltb (length bytes - at) size (omega arith), f)

-- each of n elements ends within them all
pub ends : {i n : ℕ} (at size : ℕ) → i < n → at + i * size + size ≤ at + n * size
ends {i} at size h = omega (arith, suc-mul i size, mul-le-mul_right size h)
