-- How long numbers in a line are at most, and a refusal.
-- Assumes nothing.
use mathlib.Core.Path.{◌≡◌, refl, ap}
use mathlib.Core.List.{List, [], ◌∷◌}
use Prim.Native.Nat.{ℕ, suc, ◌*◌, ◌≤◌}
use native.Mathlib.Omega.{arith}
use lib.ListN.{length, length-append}
use Rattle.answers.specs.Table.{Entry, whole, bits64, Answer, wholes, plains}
use Rattle.text.proofs.Figures.{longest-decimal, length-hex}
use Rattle.lines.specs.Lines.{entry_text, entries, numbers, refused_text}

-- each entry takes a space and at most 20 digits
entry_length : (e : Entry) → length (entry_text e) ≤ 21
entry_length (whole n) = rw length-append (omega (arith, longest-decimal n))
entry_length (bits64 b) = rw length-append (omega (arith, length-hex b))

entries-length : (es : List Entry) → length (entries es) ≤ 21 * length es
entries-length [] = omega arith
entries-length (e ∷ es) = rw length-append (omega (arith, entry_length e, entries-length es))

length-wholes : (ns : List ℕ) → length (wholes ns) ≡ length ns
length-wholes [] = refl
length-wholes (n ∷ ns) = ap suc (length-wholes ns)

pub numbers-length : (ns : List ℕ) → length (numbers ns) ≤ 21 * length ns
numbers-length ns = omega (arith, entries-length (wholes ns), length-wholes ns)

-- as many numbers as entries
pub length-plains : (es : List Entry) → length (plains es) ≡ length es
length-plains [] = refl
length-plains (e ∷ es) = ap suc (length-plains es)

-- an answer that carries at most three numbers
pub record Few (a : Answer) : Type 0 where
  pub most : length a.carries ≤ 3

pub refused-length : (a : Answer) → Few a → length (refused_text a) ≤ 91
refused-length a f =
    simp length-append (omega (arith, entries-length a.carries, f.most, longest-decimal a.number))
