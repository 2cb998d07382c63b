-- No second answer meets the contract of `print_why`: two that do are the same, with what they leave in lent memory.
-- Assumes nothing.
use Rattle.answers.specs.OneAnswer.{OneAnswer}
use Rattle.answers.specs.Lent.{leaves}
use Rattle.answers.proofs.OneToOne.{writer-one}
use Rattle.told.specs.Printed.{printed}
use Rattle.told.proofs.print.print_why.Reads as print-why

pub print-why-one : OneAnswer print-why.Learnt (λ κs s. s.1.0.now)
print-why-one κs a r r' s s' p q = writer-one (λ x. leaves x (printed a.0.now) a.1.0.now) r r' p q
