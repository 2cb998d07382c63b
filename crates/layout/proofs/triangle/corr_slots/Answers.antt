-- `triangle::corr_slots` meets its contract.
use mathlib.Core.Path.{refl}
use Rattle.layout.specs.Triangle.{slots_of}
use Rattle.layout.proofs.triangle.corr_slots.Goals as goal

pub returns-then-n-eq0 : goal.returns-then-n-eq0
unfolding slots_of
returns-then-n-eq0 c = rw c.if-n-eq0.true

pub returns : goal.returns
unfolding slots_of
returns c = refl
