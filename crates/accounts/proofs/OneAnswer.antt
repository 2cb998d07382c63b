-- No second answer meets the contract of `put_account`: two that do are the same, with what they leave on the page.
-- Assumes nothing.
use Rattle.answers.specs.OneAnswer.{OneAnswer}
use Rattle.text.specs.Page.{filled}
use Rattle.text.proofs.OneAnswer.{adds_one}
use Rattle.accounts.proofs.account.put_account.Reads as put-account

pub put-account-one : OneAnswer put-account.Learnt (λ κs s. filled s.1.1.0.now)
put-account-one κs a r r' s s' p q = adds_one p q
