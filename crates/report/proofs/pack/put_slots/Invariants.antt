use mathlib.Core.Path.{◌≡◌}
use Prim.Native.Nat.{◌+◌}
use Rattle.answers.specs.Lent.{joined}
use Rattle.layout.specs.Triangle.{slot_of}
use Rattle.text.specs.Page.{Adds}
use Rattle.report.specs.Lines.{row_lines}
use Rattle.report.proofs.pack.put_slots.Given as goal

abbrev pub invariant-loop-i : goal.invariant-loop-i
invariant-loop-i l = Adds (joined l.i (row_lines l.rows l.correlations l.states)) l.initial.page l.page × (l.first ≡ slot_of l.rows l.i (l.i + 1))
