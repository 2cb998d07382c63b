use mathlib.Core.Path.{◌≡◌}
use Prim.Native.Nat.{◌+◌, ◌-◌, ◌≤◌}
use lib.ListN.{drop, length}
use Rattle.text.specs.Numeral.{hex_from}
use Rattle.text.proofs.numeral.hex.Given as goal

abbrev pub invariant-loop-k : goal.invariant-loop-k
invariant-loop-k l = (l.k ≤ length l.line - l.at)
    × (hex_from (l.digits - l.k) l.value (l.at + l.k) (drop (l.at + l.k) l.line) ≡ hex_from l.digits 0 l.at (drop l.at l.line))
