-- No second answer meets the contract of `put_reason`: two that do are the same, with what they leave on the page.
-- Assumes nothing.
use Rattle.answers.specs.OneAnswer.{OneAnswer}
use Rattle.text.specs.Page.{filled}
use Rattle.text.proofs.OneAnswer.{adds_one}
use Rattle.reasons.proofs.reason.put_reason.Reads as put-reason

pub put-reason-one : OneAnswer put-reason.Learnt (λ κs s. filled s.1.1.1.1.1.0.now)
put-reason-one κs a r r' s s' p q = adds_one p q
