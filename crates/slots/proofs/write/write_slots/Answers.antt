-- `write::write_slots` meets its contract: the plan's refusal, or the room's, or the slots by the plan.
use mathlib.Core.Path.{◌≡◌}
use Rattle.plan.specs.Places.{pack_plan}
use Rattle.plan.specs.Rules.{plan_rules}
use Rattle.answers.proofs.Outcome.{found-tells}
use Rattle.slots.proofs.Lengths.{slots-fit}
use Rattle.slots.proofs.write.write_slots.Goals as goal
use Rattle.slots.proofs.write.write_slots.Goals.{In_ok-plan}

told : (c : In_ok-plan) → let a = c.args in ((plan_rules a.rows a.correlations.now a.clen).number ≡ 0) × (c.in_ok-plan.plan ≡ pack_plan a.rows a.correlations.now a.clen)
told c =
    let a = c.args in
    found-tells (plan_rules a.rows a.correlations.now a.clen) (pack_plan a.rows a.correlations.now a.clen) c.in_ok-plan.ensures

pub invariant_of-planned : goal.invariant_of-planned
invariant_of-planned c =
    let t = told (goal.at.invariant_of-planned c).In_ok-plan in
    let a = c.args in
    record { fits = rw t.1 (slots-fit a.rows a.correlations.now a.clen t.0) }
