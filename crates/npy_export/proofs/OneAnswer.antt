-- No second answer meets a contract: two that do are the same, with what they leave in lent memory.
-- Assumes nothing.
use Rattle.answers.specs.OneAnswer.{OneAnswer}
use Rattle.answers.specs.Lent.{leaves}
use Rattle.answers.proofs.OneToOne.{writer-one}
use Rattle.npy_export.specs.File.{file_of}
use Rattle.npy_export.proofs.export.export_npy.Reads as export-npy

pub export-npy-one : OneAnswer export-npy.Learnt (λ κs s. s.1.1.1.0.now)
export-npy-one κs a r r' s s' p q = writer-one (λ x. leaves x (file_of a.0 a.1.0.now a.1.1.0.now) a.1.1.1.0.now) r r' p q
