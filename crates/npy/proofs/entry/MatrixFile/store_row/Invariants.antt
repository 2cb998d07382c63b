use mathlib.Core.Path.{◌≡◌}
use Prim.Native.Nat.{◌+◌}
use lib.ListN.{length}
use Rattle.answers.specs.Lent.{tab}
use Rattle.answers.proofs.Lent.{Front}
use Rattle.npy.specs.Matrix.{place_of, entry_in}
use Rattle.npy.proofs.entry.MatrixFile.store_row.Given as goal

abbrev pub invariant-loop-correlation : goal.invariant-loop-correlation
invariant-loop-correlation l = record {
  stored : Front (tab (length l.initial.correlation-items) (λ k. entry_in l.self.file.now l.self.rows l.i (l.i + 1 + k))) l.initial.correlation-items l.correlation-index l.correlation-items;
  place : l.at ≡ place_of l.self.rows l.i (l.i + 1 + l.correlation-index);
}
