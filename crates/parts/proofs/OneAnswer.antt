-- No second answer meets a contract: two that do are the same, with what they leave on the page.
-- Assumes nothing.
use Rattle.answers.specs.OneAnswer.{OneAnswer}
use Rattle.text.specs.Page.{filled}
use Rattle.text.proofs.OneAnswer.{adds_one}
use Rattle.parts.proofs.element.put_gap.Reads as put-gap
use Rattle.parts.proofs.element.put_elements.Reads as put-elements
use Rattle.parts.proofs.slot.put_slot.Reads as put-slot

pub put-gap-one : OneAnswer put-gap.Learnt (λ κs s. filled s.1.0.now)
put-gap-one κs a r r' s s' p q = adds_one p q

pub put-elements-one : OneAnswer put-elements.Learnt (λ κs s. filled s.1.1.0.now)
put-elements-one κs a r r' s s' p q = adds_one p q

pub put-slot-one : OneAnswer put-slot.Learnt (λ κs s. filled s.1.1.1.1.1.0.now)
put-slot-one κs a r r' s s' p q = adds_one p q
