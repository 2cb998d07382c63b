-- No second answer meets the contract: two that do are the same, with what they leave in lent memory.
-- Assumes nothing.
use mathlib.Core.Path.{sym, ap, ◌∙◌}
use Rattle.answers.specs.OneAnswer.{OneAnswer}
use Rattle.plan.specs.declared.places.Plan.{Plan}
use Rattle.answers.specs.Outcome.{Outcome}
use Rattle.plan.proofs.OneAnswer.{plan-one}
use Rattle.slots.specs.Listed.{slots_left}
use Rattle.slots.proofs.write.write_slots.Reads as write-slots

pub write-slots-one : OneAnswer write-slots.Learnt (λ κs s. s.1.1.1.0.now)
write-slots-one κs a r r' s s' p q =
    let e = p.0 ∙ sym q.0 in
    (plan-one r r' e, p.1 ∙ ap (λ (o : Outcome Plan). slots_left o a.1.0.now a.1.1.1.0.now) e ∙ sym q.1)
