-- No second answer meets a contract: two that do are the same.
-- Assumes nothing.
use mathlib.Core.Path.{◌≡◌, sym, ap, ◌∙◌}
use Rattle.answers.specs.OneAnswer.{OneResult}
use Rattle.answers.proofs.OneToOne.{listed-one, result-one, checked-one}
use Rattle.elements.proofs.OneAnswer.{opened_one}
use Rattle.deviations.specs.Form.{form_listed}
use Rattle.deviations.proofs.OneAnswer.{form-one}
use Rattle.rules.specs.declared.decide.Decided.{Decided}
use Rattle.std.specs.Prelude.{Result}
use Rattle.answers.specs.declared.Refusal.{Refusal}
use Rattle.rules.specs.Decided.{Ready, ready, decided_listed}
use Rattle.rules.proofs.decide.decide.Reads as decide
use Rattle.rules.proofs.judge.judge.Reads as judge
use Rattle.rules.proofs.rooms.check_rooms.Reads as check-rooms
use Rattle.rules.proofs.rooms.check_rooms_for.Reads as check-rooms-for

-- what determines the listed answer determines the enum
ready-one : (d e : Decided) → ready d.places (form_listed d.form) ≡ ready e.places (form_listed e.form) → d ≡ e
ready-one d e w =
    let p = ap (λ (x : Ready). x.places) w in let f = form-one d.form e.form (ap (λ (x : Ready). x.form) w) in
    λ i. record { places = p i; form = f i }

pub decided-one : (a b : Result Decided Refusal) → decided_listed a ≡ decided_listed b → a ≡ b
decided-one = result-one decided_listed (λ d e w. ready-one d e (cc)) (λ r s w. listed-one r s (cc)) (λ d r w. cc)

pub decide-one : OneResult decide.Learnt
decide-one κs a r r' s s' p q = decided-one r r' (p ∙ sym q)

pub judge-one : OneResult judge.Learnt
judge-one κs a r r' s s' p q = opened_one r r' (p ∙ sym q)

pub check-rooms-for-one : OneResult check-rooms-for.Learnt
check-rooms-for-one κs a r r' s s' p q = checked-one r r' (p ∙ sym q)

pub check-rooms-one : OneResult check-rooms.Learnt
check-rooms-one κs a r r' s s' p q = checked-one r r' (p ∙ sym q)
