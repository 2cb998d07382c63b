-- The entries of numbers of either kind, one before the others.
-- Assumes nothing.
use mathlib.Core.Path.{◌≡◌, refl}
use mathlib.Core.Bool.{Bool, true, false}
use mathlib.Core.List.{List, [], ◌∷◌, ◌++◌}
use Prim.Native.Nat.{ℕ}
use Rattle.answers.specs.Row.{floats64}
use Rattle.answers.specs.Table.{Entry, whole, bits64, wholes, pick}
use Rattle.lines.specs.Lines.{entry_text, entries}

abbrev pub kinds : Bool → List ℕ → List Entry
kinds floats ns = pick floats (floats64 ns) (wholes ns)

pub kinds-none : (floats : Bool) → entries (kinds floats []) ≡ []
kinds-none true = refl
kinds-none false = refl

pub kinds-one : (floats : Bool) (n : ℕ) (ns : List ℕ)
    → entries (kinds floats (n ∷ ns)) ≡ entry_text (pick floats (bits64 n) (whole n)) ++ entries (kinds floats ns)
kinds-one true n ns = refl
kinds-one false n ns = refl
