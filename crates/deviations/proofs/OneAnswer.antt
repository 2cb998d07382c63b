-- No second answer meets a contract: two that do are the same.
-- Assumes nothing.
use mathlib.Core.Path.{◌≡◌, refl, sym, ap, ◌∙◌}
use Prim.Native.Nat.{ℕ}
use native.Mathlib.Omega.{arith}
use Rattle.answers.specs.OneAnswer.{OneResult}
use Rattle.answers.proofs.OneToOne.{checked-one}
use Rattle.ranges.specs.Tables.{range_listed}
use Rattle.ranges.proofs.OneAnswer.{range-one}
use Rattle.elements.proofs.OneAnswer.{number-one}
use Rattle.deviations.specs.declared.form.DeviationForm.{DeviationForm}
use Rattle.deviations.specs.declared.form.DeviationForm.TheVariants.{Plain, Mapped}
use Rattle.deviations.specs.Form.{form_listed}
use Rattle.deviations.proofs.form.check_deviation_range.Reads as check-deviation-range
use Rattle.deviations.proofs.form.deviation_form.Reads as deviation-form
use Rattle.deviations.proofs.number.deviation_in.Reads as deviation-in

-- what determines the listed form determines the enum
pub form-one : (a b : DeviationForm) → form_listed a ≡ form_listed b → a ≡ b
form-one Plain Plain e = refl
form-one Plain (Mapped r) e = let z : ◌≡◌ {A = ℕ} 0 1 = cc in absurd (omega arith)
form-one (Mapped r) Plain e = let z : ◌≡◌ {A = ℕ} 0 1 = cc in absurd (omega arith)
form-one (Mapped r) (Mapped s) e = let k : range_listed r ≡ range_listed s = cc in ap Mapped (range-one r s k)

pub check-deviation-range-one : OneResult check-deviation-range.Learnt
check-deviation-range-one κs a r r' s s' p q = checked-one r r' (p ∙ sym q)

pub deviation-form-one : OneResult deviation-form.Learnt
deviation-form-one κs a r r' s s' p q = form-one r r' (p ∙ sym q)

pub deviation-in-one : OneResult deviation-in.Learnt
deviation-in-one κs a r r' s s' p q = number-one r r' (p ∙ sym q)
