-- Rule h) row by row: what the number of a row tells of the rows up to it.
-- Assumes nothing.
use mathlib.Core.Path.{◌≡◌, sym, ◌∙◌}
use mathlib.Core.List.{List, [], ◌∷◌}
use Prim.Native.Nat.{ℕ, suc, ◌+◌, ◌-◌, ◌*◌, ◌<◌}
use lib.Dec.{ltb}
use lib.ListN.{length}
use Rattle.answers.specs.Listed.{listed}
use Rattle.answers.specs.Outcome.{found, refused}
use Rattle.answers.specs.Table.{Answer, short, wholes, passes}
use Rattle.answers.specs.declared.Refusal.{Refusal}
use Rattle.answers.proofs.Next.{IsRule, says-pick, says-refused}
use Rattle.answers.proofs.OneToOne.{refused-not-done}
use Rattle.answers.proofs.Outcome.{found-tells, refused-tells}
use Rattle.layout.specs.declared.control.ParseControl.{ParseControl}
use Rattle.elements.specs.Elements.{part}
use Rattle.elements.specs.Numbers.{element_rule}
use Rattle.deviations.specs.declared.form.DeviationForm.{DeviationForm}
use Rattle.deviations.specs.Range.{row_part}
use Rattle.deviations.specs.Form.{form_listed, form_format, form_number}
use Rattle.deviations.proofs.Formed.{form-says}
use Rattle.rules.specs.Decided.{form_rule}
use Rattle.rules.proofs.InTurn.{turns-stop}

module _ (bytes : List ℕ) (at : ℕ) (c : ParseControl) (form : DeviationForm) (row : ℕ) (passed : form_rule bytes at c (form_listed form) row ≡ passes) where
  abbrev place : ℕ
  place = at + row * c.slen

  abbrev format : Answer
  format = form_format (form_listed form) c row (part bytes place c.slen)

  abbrev row_rule : Answer
  row_rule = element_rule bytes place c.slen format

  -- it passes, or refuses
  row-says : IsRule row_rule
  row-says =
      says-pick (ltb (length bytes - place) c.slen) (short c.slen (length bytes - place)) format
      (λ _. says-refused 1 (wholes (c.slen ∷ (length bytes - place) ∷ [])) tt) (λ _. form-says form c row (part bytes place c.slen))

  up_to : form_rule bytes at c (form_listed form) (suc row) ≡ row_rule
  up_to = rw passed

  pub row-passes : {b : ℕ} → found b ≡ form_number bytes place c (form_listed form) row → form_rule bytes at c (form_listed form) (suc row) ≡ passes
  row-passes e = up_to ∙ row-says.done (found-tells row_rule _ e).0

  pub row-stops : (x : Refusal) → refused (listed x) ≡ form_number bytes place c (form_listed form) row → (n : ℕ) → row < n → listed x ≡ form_rule bytes at c (form_listed form) n
  row-stops x e n l =
      let k : form_rule bytes at c (form_listed form) (suc row) ≡ listed x = up_to ∙ refused-tells row_rule _ e in
      sym (turns-stop bytes at c.slen (λ i. form_format (form_listed form) c i (row_part bytes at c i)) row n l (rw (k, refused-not-done x)) ∙ k)
