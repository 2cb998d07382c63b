-- `present::ones` meets its contract. The invariant: the count is that of the whole bytes passed.
use mathlib.Core.Path.{◌≡◌}
use Prim.Native.Nat.{◌+◌, ◌*◌, ◌/◌, ◌%◌}
use native.Mathlib.Omega.{arith}
use Rattle.elements.proofs.Vector.{ones-to}
use Rattle.elements.proofs.present.ones.Goals as goal

pub loop-i-preserved : goal.loop-i-preserved
loop-i-preserved c =
    let a = c.args in
    let i = c.loop-i.i in
    (omega arith, rw (ones-to a.bytes.now a.at i 8 (8 * (i + 1)) (omega arith) (omega arith) (omega arith)) (cc))

pub returns : goal.returns
returns c =
    let a = c.args in
    let e : c.loop-i.i ≡ a.slots / 8 = omega arith in
    rw (ones-to a.bytes.now a.at (a.slots / 8) (a.slots % 8) a.slots (omega arith) (omega arith) (omega arith), ← e) (cc)
