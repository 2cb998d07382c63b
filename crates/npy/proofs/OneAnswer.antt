-- No second answer meets a contract: two that do are the same, with what they leave in lent memory.
-- Assumes nothing.
use mathlib.Core.List.{List}
use Prim.Native.Nat.{ℕ}
use Rattle.answers.specs.OneAnswer.{OneAnswer}
use Rattle.reader.proofs.OneAnswer.{reads-one}
use Rattle.npy_header.specs.Header.{size_in}
use Rattle.npy.specs.Matrix.{deviations_in, correlations_in, states_in}
use Rattle.npy.proofs.import.import_npy.Reads as import-npy

pub import-npy-one : OneAnswer {L = List ℕ × List ℕ × List ℕ} import-npy.Learnt (λ κs s. (s.1.0.now, s.1.1.0.now, s.1.1.1.0.now))
import-npy-one κs a r r' s s' p q =
    let file = a.0.now in
    reads-one (deviations_in file (size_in file)) (correlations_in file (size_in file)) (states_in file (size_in file))
    a.1.0.now a.1.1.0.now a.1.1.1.0.now p q
