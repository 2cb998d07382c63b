use mathlib.Core.Path.{◌≡◌}
use Prim.Native.Nat.{◌+◌, ◌^◌, ◌≤◌, ◌<◌}
use lib.ListN.{drop}
use Rattle.numbers.specs.BerOid.{continued, oid_value}
use Rattle.numbers.proofs.ber_oid.read_ber_oid.Given as goal

abbrev pub invariant-loop-i : goal.invariant-loop-i
invariant-loop-i l = (l.i ≤ 5) × (l.value < 2 ^ 32) × (l.value ≡ oid_value l.i l.bytes) × (continued l.bytes ≡ l.i + continued (drop l.i l.bytes))
