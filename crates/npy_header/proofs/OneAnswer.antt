-- No second answer meets a contract: two that do are the same, with what they leave in lent memory.
-- Assumes nothing.
use mathlib.Core.Path.{sym, ◌∙◌}
use Rattle.answers.specs.OneAnswer.{OneResult, OneAnswer}
use Rattle.answers.specs.Lent.{leaves}
use Rattle.answers.proofs.OneToOne.{writer-one, checked-one}
use Rattle.npy_header.specs.Header.{header}
use Rattle.npy_header.proofs.header.write_header.Reads as write-header
use Rattle.npy_header.proofs.check.size_in.Reads as size_in
use Rattle.npy_header.proofs.check.check_header.Reads as check-header

pub write-header-one : OneAnswer write-header.Learnt (λ κs s. s.1.0.now)
write-header-one κs a r r' s s' p q = writer-one (λ x. leaves x (header a.0) a.1.0.now) r r' p q

pub size-in-one : OneResult size_in.Learnt
size-in-one κs a r r' s s' p q = p.0 ∙ sym q.0

pub check-header-one : OneResult check-header.Learnt
check-header-one κs a r r' s s' p q = checked-one r r' (p ∙ sym q)
