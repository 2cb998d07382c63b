-- No second answer meets a contract: two that do are the same.
-- Assumes nothing.
use mathlib.Core.Path.{◌≡◌, sym, ◌∙◌}
use Prim.Native.Nat.{ℕ}
use Rattle.std.specs.Prelude.{Result}
use Rattle.answers.specs.OneAnswer.{OneResult}
use Rattle.answers.proofs.OneToOne.{listed-one, result-one, checked-one}
use Rattle.layout.specs.declared.rule.Broken.{Broken}
use Rattle.layout.proofs.Ruled.{broken-one}
use Rattle.elements.specs.declared.head.Places.{Places}
use Rattle.elements.specs.Listed.{opened_listed}
use Rattle.elements.specs.Numbers.{number_listed}
use Rattle.elements.specs.Slots.{slot_listed}
use Rattle.elements.proofs.head.deviation_count.Reads as deviation-count
use Rattle.elements.proofs.head.open_pack.Reads as open-pack
use Rattle.elements.proofs.head.pack_of.Reads as pack-of
use Rattle.elements.proofs.number.check_number.Reads as check-number
use Rattle.elements.proofs.number.deviation_at.Reads as deviation-at
use Rattle.elements.proofs.number.left.Reads as left
use Rattle.elements.proofs.number.value_bits.Reads as value-bits
use Rattle.elements.proofs.present.is_present.Reads as is-present
use Rattle.elements.proofs.present.present_count.Reads as present-count
use Rattle.elements.proofs.slot.check_slot.Reads as check-slot
use Rattle.elements.proofs.slot.correlation_at.Reads as correlation-at
use Rattle.elements.proofs.slot.slot_at.Reads as slot_at
use Rattle.elements.proofs.slot.slot_of.Reads as slot_of
use Rattle.elements.proofs.slot.state_of.Reads as state-of
use Rattle.elements.specs.declared.slot.Slot.{Slot}
use Rattle.answers.specs.declared.Refusal.{Refusal}

-- what determines the listed answer determines the enum
pub number-one : (a b : Result ℕ Refusal) → number_listed a ≡ number_listed b → a ≡ b
number-one = result-one number_listed (λ x y e. cc) (λ r s e. listed-one r s (cc)) (λ x r e. cc)

slot-one : (a b : Result Slot Refusal) → slot_listed a ≡ slot_listed b → a ≡ b
slot-one = result-one slot_listed (λ x y e. cc) (λ r s e. listed-one r s (cc)) (λ x r e. cc)

pub opened_one : (a b : Result Places Broken) → opened_listed a ≡ opened_listed b → a ≡ b
opened_one = result-one opened_listed (λ p q e. cc) (λ x y e. broken-one x y (cc) (cc)) (λ p x e. cc)

pub deviation-count-one : OneResult deviation-count.Learnt
deviation-count-one κs a r r' s s' p q = p ∙ sym q

pub pack-of-one : OneResult pack-of.Learnt
pack-of-one κs a r r' s s' p q = p ∙ sym q

pub open-pack-one : OneResult open-pack.Learnt
open-pack-one κs a r r' s s' p q = opened_one r r' (p ∙ sym q)

pub check-number-one : OneResult check-number.Learnt
check-number-one κs a r r' s s' p q = checked-one r r' (p ∙ sym q)

pub left_one : OneResult left.Learnt
left_one κs a r r' s s' p q = p ∙ sym q

pub value-bits-one : OneResult value-bits.Learnt
value-bits-one κs a r r' s s' p q = p ∙ sym q

pub deviation-at-one : OneResult deviation-at.Learnt
deviation-at-one κs a r r' s s' p q = number-one r r' (p ∙ sym q)

pub correlation-at-one : OneResult correlation-at.Learnt
correlation-at-one κs a r r' s s' p q = slot-one r r' (p ∙ sym q)

pub slot-at-one : OneResult slot_at.Learnt
slot-at-one κs a r r' s s' p q = slot-one r r' (p ∙ sym q)

pub is-present-one : OneResult is-present.Learnt
is-present-one κs a r r' s s' p q = p ∙ sym q

pub check-slot-one : OneResult check-slot.Learnt
check-slot-one κs a r r' s s' p q = checked-one r r' (p ∙ sym q)

pub state-of-one : OneResult state-of.Learnt
state-of-one κs a r r' s s' p q = p ∙ sym q

pub slot-of-one : OneResult slot_of.Learnt
slot-of-one κs a r r' s s' p q = p ∙ sym q

pub present-count-one : OneResult present-count.Learnt
present-count-one κs a r r' s s' p q = p ∙ sym q
