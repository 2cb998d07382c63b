-- No second answer meets a contract: two that do are the same.
-- Assumes nothing.
use Rattle.std.specs.Prelude.{Result}
use Rattle.std.proofs.Common.{◌≡◌, sym, ◌∙◌}
use Rattle.answers.specs.OneAnswer.{OneResult}
use Rattle.answers.proofs.OneToOne.{listed-one, result-one, checked-one}
use Rattle.imapb.proofs.OneAnswer.{read_one}
use Rattle.ranges.specs.Tables.{range_listed}
use Rattle.ranges.proofs.decode.decode_imapb_in.Reads as decode-imapb-in
use Rattle.ranges.proofs.decode.decode_worked_out.Reads as decode-worked-out
use Rattle.ranges.proofs.mapping.range_mapping.Reads as range-mapping
use Rattle.ranges.proofs.range.check_range.Reads as check-range
use Rattle.ranges.specs.declared.mapping.RangeMapping.{RangeMapping}
use Rattle.answers.specs.declared.Refusal.{Refusal}

-- what determines the listed answer determines the enum
pub range-one : (a b : Result RangeMapping Refusal) → range_listed a ≡ range_listed b → a ≡ b
range-one = result-one range_listed (λ x y e. cc) (λ r s e. listed-one r s (cc)) (λ x r e. cc)

pub check-range-one : OneResult check-range.Learnt
check-range-one κs a r r' s s' p q = checked-one r r' (p ∙ sym q)

pub range-mapping-one : OneResult range-mapping.Learnt
range-mapping-one κs a r r' s s' p q = range-one r r' (p ∙ sym q)

pub decode-worked-out-one : OneResult decode-worked-out.Learnt
decode-worked-out-one κs a r r' s s' p q = read_one r r' (p ∙ sym q)

pub decode-imapb-in-one : OneResult decode-imapb-in.Learnt
decode-imapb-in-one κs a r r' s s' p q = read_one r r' (p ∙ sym q)
