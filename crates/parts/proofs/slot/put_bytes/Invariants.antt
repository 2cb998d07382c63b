use Prim.Native.Nat.{◌+◌, ◌-◌, ◌≤◌}
use lib.ListN.{get_or}
use Rattle.answers.specs.Lent.{joined}
use Rattle.text.specs.Text.{figures}
use Rattle.text.specs.Page.{Adds}
use Rattle.parts.proofs.slot.put_bytes.Given as goal

abbrev pub invariant-loop-i : goal.invariant-loop-i
invariant-loop-i l = Adds (joined (l.i - l.fn.span.start) (λ m. figures 16 2 (get_or l.bytes (l.fn.span.start + m) 0))) l.initial.page l.page × (l.i - l.fn.span.start ≤ l.fn.span.end - l.fn.span.start)
