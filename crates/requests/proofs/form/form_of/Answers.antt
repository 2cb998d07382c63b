-- `form::form_of` meets its contract. The invariant: of the forms that are left, the first is the first of all.
use mathlib.Core.Path.{◌≡◌}
use native.Mathlib.Omega.{arith}
use Rattle.replies.specs.Places.{bad_request}
use Rattle.requests.proofs.form.form_of.Goals as goal

pub returns : goal.returns
returns c =
    let p = c.loop-form in
    let e : p.form ≡ bad_request = omega (arith, p.invariant.0) in
    rw e at p.invariant.1
