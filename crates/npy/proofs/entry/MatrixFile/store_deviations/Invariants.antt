use mathlib.Core.Path.{◌≡◌}
use lib.ListN.{length}
use Rattle.answers.specs.Lent.{tab}
use Rattle.answers.proofs.Lent.{Front}
use Rattle.npy.specs.Matrix.{place_of, entry_in}
use Rattle.npy.proofs.entry.MatrixFile.store_deviations.Given as goal

abbrev pub invariant-loop-deviation : goal.invariant-loop-deviation
invariant-loop-deviation l = record {
  stored : Front (tab (length l.initial.deviation-items) (λ i. entry_in l.self.file.now l.self.rows i i)) l.initial.deviation-items l.deviation-index l.deviation-items;
  place : l.at ≡ place_of l.self.rows l.deviation-index l.deviation-index;
}
