-- No second answer meets a contract: two that do are the same, with what they leave in lent memory.
-- Assumes nothing.
use mathlib.Core.Path.{sym, ◌∙◌}
use mathlib.Core.List.{List}
use Prim.Native.Nat.{ℕ}
use Rattle.answers.specs.OneAnswer.{OneAnswer}
use Rattle.requests.proofs.request.read_request.Reads as read-request
use Rattle.requests.proofs.states.states_of.Reads as states-of

pub read-request-one : OneAnswer {L = List ℕ × List ℕ} read-request.Learnt (λ κs s. (s.0.now, s.1.0.now))
read-request-one κs a r r' s s' p q =
    let l = p.1.0 ∙ sym q.1.0 in
    let w = p.1.1 ∙ sym q.1.1 in
    (p.0 ∙ sym q.0, λ i. (l i, w i))

pub states-of-one : OneAnswer states-of.Learnt (λ κs s. s.1.0.now)
states-of-one κs a r r' s s' p q = (p.0 ∙ sym q.0, p.1 ∙ sym q.1)
