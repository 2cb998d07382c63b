-- No second answer meets a contract: two that do are the same.
-- Assumes nothing.
use mathlib.Core.Path.{◌≡◌, sym, ◌∙◌}
use Rattle.answers.specs.OneAnswer.{OneResult}
use Rattle.answers.proofs.OneToOne.{listed-one, result-one}
use Rattle.std.specs.Prelude.{Result}
use Rattle.answers.specs.Listed.{listed}
use Rattle.explain.specs.declared.explain.Accepted.{Accepted}
use Rattle.explain.specs.declared.explain.Rejected.{Rejected}
use Rattle.explain.specs.Explained.{accepted, refused, explained_listed}
use Rattle.explain.proofs.explain.explain.Reads as explain
use Rattle.explain.proofs.slot.behind.Reads as behind
use Rattle.explain.proofs.slot.slot_code.Reads as slot-code

-- what determines the listed answer determines the enum
rejected-one : (q r : Rejected) → refused q.rule q.place (listed q.refusal) ≡ refused r.rule r.place (listed r.refusal) → q ≡ r
rejected-one q r e =
    let x : q.rule ≡ r.rule = cc in let p : q.place ≡ r.place = cc in let w : q.refusal ≡ r.refusal = listed-one _ _ (cc) in
    λ i. record { rule = x i; place = p i; refusal = w i }

accepted-one : (a b : Accepted) → accepted a.head a.elements ≡ accepted b.head b.elements → a ≡ b
accepted-one a b e = let h : a.head ≡ b.head = cc in let p : a.elements ≡ b.elements = cc in λ i. record { head = h i; elements = p i }

pub explained-one : (a b : Result Accepted Rejected) → explained_listed a ≡ explained_listed b → a ≡ b
explained-one = result-one explained_listed accepted-one rejected-one (λ a r e. cc)

pub explain-one : OneResult explain.Learnt
explain-one κs a r r' s s' p q = explained-one r r' (p ∙ sym q)

pub slot-code-one : OneResult slot-code.Learnt
slot-code-one κs a r r' s s' p q = p ∙ sym q

pub behind-one : OneResult behind.Learnt
behind-one κs a r r' s s' p q = p ∙ sym q
