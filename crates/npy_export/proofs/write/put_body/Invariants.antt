use mathlib.Core.Path.{◌≡◌}
use Prim.Native.Nat.{◌+◌}
use Rattle.answers.proofs.Runs.{Run}
use Rattle.layout.specs.Triangle.{slot_of}
use Rattle.npy_header.specs.Header.{header_length}
use Rattle.npy_export.specs.File.{row_bytes}
use Rattle.npy_export.proofs.write.put_body.Given as goal

abbrev pub invariant-loop-i : goal.invariant-loop-i
invariant-loop-i l = Run l.rows (row_bytes l.rows l.deviations l.correlations) header_length l.initial.out l.i l.out l.at × (l.first ≡ slot_of l.rows l.i (l.i + 1))
