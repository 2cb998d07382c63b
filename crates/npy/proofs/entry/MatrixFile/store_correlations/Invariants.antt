use mathlib.Core.Path.{◌≡◌}
use Prim.Native.Nat.{◌+◌}
use lib.Seq.{sets}
use Rattle.answers.specs.Lent.{joined}
use Rattle.layout.specs.Triangle.{slot_of}
use Rattle.npy.specs.Matrix.{row_in}
use Rattle.npy.proofs.entry.MatrixFile.store_correlations.Given as goal

abbrev pub invariant-loop-i : goal.invariant-loop-i
invariant-loop-i l = (l.correlations ≡ sets l.initial.correlations 0 (joined l.i (row_in l.self.file.now l.self.rows))) × (l.first ≡ slot_of l.self.rows l.i (l.i + 1))
