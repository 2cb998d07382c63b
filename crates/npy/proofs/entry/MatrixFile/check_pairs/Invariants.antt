use mathlib.Core.Path.{◌≡◌}
use Rattle.answers.specs.Table.{passes, each}
use Rattle.npy.specs.Rules.{row_rules}
use Rattle.npy.proofs.entry.MatrixFile.check_pairs.Given as goal

abbrev pub invariant-loop-i : goal.invariant-loop-i
invariant-loop-i l = each l.i (row_rules l.self.file.now l.self.rows) ≡ passes
