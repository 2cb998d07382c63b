use Prim.Native.Nat.{◌+◌, ◌-◌}
use Rattle.answers.specs.Lent.{joined}
use Rattle.text.specs.Page.{Adds}
use Rattle.report.specs.Lines.{slot_line}
use Rattle.report.proofs.pack.put_row.Given as goal

abbrev pub invariant-loop-j : goal.invariant-loop-j
invariant-loop-j l = Adds (joined (l.j - 1 - l.i) (λ k. slot_line l.rows l.correlations l.states l.i (l.i + 1 + k))) l.initial.page l.page
