-- No second answer meets a contract: two that do are the same, with what they leave in lent memory.
-- Assumes nothing.
use mathlib.Core.Path.{◌≡◌, refl, sym, ◌∙◌}
use mathlib.Core.List.{List}
use Prim.Native.Nat.{ℕ}
use Rattle.answers.specs.OneAnswer.{OneResult, OneAnswer}
use Rattle.answers.specs.Lent.{leaves}
use Rattle.answers.proofs.OneToOne.{writer-one}
use Rattle.text.specs.declared.page.Page.{Page}
use Rattle.text.specs.Page.{Adds, filled}
use Rattle.text.proofs.OneAnswer.{filled_one}
use Rattle.report.specs.Answer.{Left}
use Rattle.report.specs.Printed.{printed}
use Rattle.report.proofs.answer.put_answer.Reads as put-answer
use Rattle.report.proofs.print.is_too_big.Reads as is-too-big
use Rattle.report.proofs.print.print_pack.Reads as print-pack

-- whatever is put of the reader's answer
pub answer-one : {text bytes ds cs ss ds' ds'' cs' cs'' ss' ss'' : List ℕ} {p q q' : Page} {r r' : Unit {0}}
    → Adds text p q × Left bytes ds cs ss ds' cs' ss' → Adds text p q' × Left bytes ds cs ss ds'' cs'' ss''
    → ◌≡◌ {A = Unit {0}} r r' × (◌≡◌ {A = List ℕ × List ℕ × List ℕ × (ℕ × List ℕ)} (ds', cs', ss', filled q) (ds'', cs'', ss'', filled q'))
answer-one p q =
    let o = filled_one p.0 q.0 in
    let d = p.1.deviations ∙ sym q.1.deviations in
    let c = p.1.correlations ∙ sym q.1.correlations in
    let s = p.1.states ∙ sym q.1.states in
    (refl, λ i. (d i, c i, s i, o i))

pub put-answer-one : OneAnswer {L = List ℕ × List ℕ × List ℕ × (ℕ × List ℕ)} put-answer.Learnt
    (λ κs s. (s.1.0.now, s.1.1.0.now, s.1.1.1.0.now, filled s.1.1.1.1.0.now))
put-answer-one κs a r r' s s' p q = answer-one p q

pub is-too-big-one : OneResult is-too-big.Learnt
is-too-big-one κs a r r' s s' p q = p ∙ sym q

pub print-pack-one : OneAnswer print-pack.Learnt (λ κs s. s.1.0.now)
print-pack-one κs a r r' s s' p q = writer-one (λ x. leaves x (printed a.0.now) a.1.0.now) r r' p q
