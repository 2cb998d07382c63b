use Prim.Native.Nat.{◌+◌, ◌-◌}
use Rattle.answers.proofs.Runs.{Run}
use Rattle.layout.specs.Triangle.{slot_of}
use Rattle.npy_export.specs.Parts.{slot_bytes}
use Rattle.npy_export.proofs.write.put_right.Given as goal

abbrev pub invariant-loop-correlation : goal.invariant-loop-correlation
invariant-loop-correlation l = Run (l.rows - 1 - l.i) (λ k. slot_bytes l.correlations (slot_of l.rows l.i (l.i + 1 + k))) l.at l.initial.out l.correlation-index l.out l.next
