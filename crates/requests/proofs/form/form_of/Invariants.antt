use mathlib.Core.Path.{◌≡◌}
use Prim.Native.Nat.{◌-◌, ◌≤◌}
use Rattle.replies.specs.Places.{bad_request}
use Rattle.requests.specs.Form.{form_of, first_from}
use Rattle.requests.proofs.form.form_of.Given as goal

abbrev pub invariant-loop-form : goal.invariant-loop-form
invariant-loop-form l = (l.form ≤ bad_request) × (first_from (bad_request - l.form) l.form l.line ≡ form_of l.line)
