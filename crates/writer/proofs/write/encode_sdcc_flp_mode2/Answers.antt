-- `write::encode_sdcc_flp_mode2` meets its contract: a refusal that leaves all as it was, or the slots and the others.
use mathlib.Core.Path.{◌≡◌, ap, ◌∙◌}
use lib.ListN.{length}
use Rattle.std.proofs.lemmas.Result.{err_from_is_err_and}
use Rattle.answers.proofs.OneToOne.{refused-not-done}
use Rattle.plan.specs.declared.places.Plan.{Plan}
use Rattle.answers.specs.Outcome.{found}
use Rattle.plan.specs.Places.{pack_plan}
use Rattle.plan.proofs.Counts.{both-pass}
use Rattle.answers.proofs.Outcome.{found-tells, refused-tells}
use Rattle.slots.specs.Listed.{slots_left, slots_over}
use Rattle.slots.specs.Rules.{slots_rules}
use Rattle.writer.proofs.Packed.{plan-end, packed}
use Rattle.writer.proofs.Whole.{slots-stop, slots-pass, all_pass}
use Rattle.writer.proofs.write.encode_sdcc_flp_mode2.Goals as goal
use Rattle.writer.proofs.write.encode_sdcc_flp_mode2.Goals.{In_ok-plan}

-- where there is a plan, no rule refuses, it is that of what is sent, and the slots are written by it
told : (c : In_ok-plan) →
    let a = c.args in
    let n = length a.deviations.now in
    ((slots_rules n a.correlations.now a.clen (length a.out.now)).number ≡ 0) × (c.in_ok-plan.plan ≡ pack_plan n a.correlations.now a.clen)
told c =
    let a = c.args in
    let n = length a.deviations.now in
    found-tells (slots_rules n a.correlations.now a.clen (length a.out.now)) (pack_plan n a.correlations.now a.clen) c.in_ok-plan.ensures.0

left : (c : In_ok-plan) →
    let a = c.args in
    c.write_slots.new.out ≡ slots_over a.correlations.now (pack_plan (length a.deviations.now) a.correlations.now a.clen) a.out.now
left c = let a = c.args in c.in_ok-plan.ensures.1 ∙ ap (λ (p : Plan). slots_left (found p) a.correlations.now a.out.now) (told c).1

pub returns-in_err-plan : goal.returns-in_err-plan
returns-in_err-plan c =
    let a = c.args in
    let n = length a.deviations.now in
    let p = err_from_is_err_and c.from_residual.result c.from_residual.ensures.1 in
    let r = c.in_err-plan in
    let e = refused-tells (slots_rules n a.correlations.now a.clen (length a.out.now)) (pack_plan n a.correlations.now a.clen) r.ensures.0 in
    rw (p.1, p.2) (slots-stop a.deviations.now a.correlations.now a.clen (length a.out.now) r.field-0.0 e, rw (refused-not-done r.field-0.0) r.ensures.1)

pub returns : goal.returns
returns c =
    let k = (goal.at.returns c).In_ok-plan in let a = k.args in
    let ds = a.deviations.now in
    let cs = a.correlations.now in
    let out = a.out.now in
    let t = slots-pass ds cs a.clen (length out) (told k).0 in
    let b = both-pass (length ds) cs a.clen t.0 in
    let e = plan-end ds cs a.clen t.0 in (
      rw ((told k).1, e) (all_pass ds cs a.clen (length out) b.0 b.1 (rw e at t.1)),
      c.write_others.ensures ∙ rw ((told k).1, left k) (packed ds cs a.clen t.0 out t.1),
    )
