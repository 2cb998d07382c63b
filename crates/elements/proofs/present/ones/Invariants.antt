use mathlib.Core.Path.{◌≡◌}
use Prim.Native.Nat.{◌*◌, ◌≤◌}
use Rattle.elements.specs.Elements.{ones_before}
use Rattle.elements.proofs.present.ones.Given as goal

abbrev pub invariant-loop-i : goal.invariant-loop-i
invariant-loop-i l = (l.count ≤ 8 * l.i) × (l.count ≡ ones_before l.bytes l.at (8 * l.i))
