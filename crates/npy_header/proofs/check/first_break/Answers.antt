-- `check::first_break` meets its contract. The invariant: what is left of both breaks where all of them does.
use mathlib.Core.Path.{◌≡◌, sym, ◌∙◌}
use native.Mathlib.Omega.{arith}
use Rattle.npy_header.proofs.Headers.{held-end}
use Rattle.npy_header.proofs.check.first_break.Goals as goal

pub returns : goal.returns
returns c =
    let e : c.loop-i.i ≡ c.min-there.result = omega arith in
    sym e ∙ held-end c.loop-i.invariant (e ∙ c.min-there.ensures)
