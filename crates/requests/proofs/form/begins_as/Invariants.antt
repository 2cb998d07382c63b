use mathlib.Core.Path.{◌≡◌}
use lib.ListN.{drop}
use Rattle.requests.specs.Form.{begins_as, begins_from}
use Rattle.requests.proofs.form.begins_as.Given as goal

abbrev pub invariant-loop-i : goal.invariant-loop-i
invariant-loop-i l = begins_from l.form l.i (drop l.i l.line) ≡ begins_as l.form l.line
