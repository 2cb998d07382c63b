use lib.ListN.{get_or}
use Rattle.answers.specs.Lent.{joined}
use Rattle.text.specs.Page.{Adds}
use Rattle.lines.specs.Lines.{s_line}
use Rattle.lines.proofs.line.put_rows.Given as goal

abbrev pub invariant-loop-i : goal.invariant-loop-i
invariant-loop-i l = Adds (joined l.i (λ i. s_line i (get_or l.deviations i 0))) l.initial.page l.page
