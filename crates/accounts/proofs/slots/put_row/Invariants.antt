use mathlib.Core.Path.{◌≡◌}
use mathlib.Core.List.{◌++◌}
use Prim.Native.Nat.{◌+◌, ◌-◌}
use Rattle.answers.specs.Lent.{joined}
use Rattle.layout.specs.Triangle.{slot_of}
use Rattle.explain.specs.Slots.{code_at, slot_code}
use Rattle.text.specs.Page.{Adds}
use Rattle.parts.specs.Parts.{gap, slot_text}
use Rattle.accounts.proofs.slots.put_row.Given as goal

abbrev pub invariant-loop-j : goal.invariant-loop-j
invariant-loop-j l = Adds
    (joined (l.j - 1 - l.i) (λ k. gap l.lines ++ slot_text l.lines l.bytes l.i (l.i + 1 + k) (slot_code l.bytes l.head (slot_of l.head.n l.i (l.i + 1 + k)))))
    l.initial.page l.page
    × (l.code ≡ code_at l.bytes l.head (l.first + (l.j - 1 - l.i)))
