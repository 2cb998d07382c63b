-- `place::place_of` meets its contract.
use mathlib.Core.Path.{◌≡◌}
use Prim.Native.Nat.{ℕ}
use native.Mathlib.Omega.{arith}
use Rattle.elements.proofs.Opened.{refused-tells}
use Rattle.layout.specs.Size.{fit_ruled}
use Rattle.explain.proofs.Places.{at-control, at_body, late, all_fit}
use Rattle.explain.proofs.place.place_of.Goals as goal

pub control_at-requires : goal.control_at-requires
control_at-requires c = (at-control c.args.bytes.now c.requires c.in-B.is).0

pub body_at-requires : goal.body_at-requires
body_at-requires c = (at_body c.args.bytes.now c.requires c.in-E.is).0

-- never: a) to g) pass
pub returns-in_default-opened : goal.returns-in_default-opened
returns-in_default-opened c =
    let b = c.args.bytes.now in
    let f = all_fit b c.requires (late c.args.rule c.in_default.not-A c.in_default.not-B c.in_default.not-C c.in_default.not-D c.in_default.not-E c.in_default.not-F c.in_default.not-G) in
    let r = refused-tells b (fit_ruled b) (rw c.in_default-opened.is at c.open_pack-opened.ensures) in
    let z : ◌≡◌ {A = ℕ} 0 1 = cc in
    absurd (omega arith)
