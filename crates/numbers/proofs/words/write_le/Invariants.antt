use mathlib.Core.Path.{◌≡◌}
use Prim.Native.Nat.{◌/◌, ◌^◌}
use lib.ListN.{length}
use Rattle.answers.proofs.Lent.{Front}
use Rattle.numbers.specs.Words.{low_bytes_of}
use Rattle.numbers.proofs.words.write_le.Given as goal

abbrev pub invariant-loop-byte : goal.invariant-loop-byte
invariant-loop-byte l = Front (low_bytes_of (length l.initial.part) l.value) l.initial.part l.byte-index l.part
    × (l.rest ≡ l.value / 256 ^ l.byte-index)
