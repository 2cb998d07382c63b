use Rattle.text.specs.Text.{figures}
use Rattle.text.proofs.Adding.{Owes}
use Rattle.text.proofs.page.Page.hex.Given as goal

abbrev pub invariant-loop-behind : goal.invariant-loop-behind
invariant-loop-behind l = Owes (figures 16 l.behind l.value) l.self (figures 16 l.digits l.value) l.initial.self
