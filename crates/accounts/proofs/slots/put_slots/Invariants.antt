use mathlib.Core.Path.{◌≡◌}
use Prim.Native.Nat.{◌+◌}
use Rattle.answers.specs.Lent.{joined}
use Rattle.layout.specs.Triangle.{slot_of}
use Rattle.explain.specs.Slots.{code_at}
use Rattle.text.specs.Page.{Adds}
use Rattle.accounts.specs.Account.{row_text}
use Rattle.accounts.proofs.slots.put_slots.Given as goal

abbrev pub invariant-loop-i : goal.invariant-loop-i
invariant-loop-i l = Adds (joined l.i (row_text l.lines l.bytes l.head)) l.initial.page l.page
    × (l.first ≡ slot_of l.head.n l.i (l.i + 1)) × (l.code ≡ code_at l.bytes l.head l.first)
