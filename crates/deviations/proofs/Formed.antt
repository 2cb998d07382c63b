-- The form that is worked out of a range and a control reads each deviation as the rules have it.
-- Assumes nothing.
use mathlib.Core.Path.{◌≡◌, refl, ◌∙◌}
use mathlib.Core.Bool.{true}
use mathlib.Core.List.{List, [], ◌∷◌}
use Prim.Native.Nat.{ℕ, ◌+◌, ◌-◌, ◌*◌, ◌≤◌}
use native.Mathlib.Nat.{lt_of_not-le}
use native.Mathlib.Decide.{dec_le}
use native.Mathlib.Omega.{arith}
use borrow.Author.Tests.{eq-eqb, lt-ltb, eqb-false}
use lib.Dec.{eqb}
use lib.Ieee.{Float}
use lib.ListN.{length}
use Rattle.std.specs.Prelude.{Err, Ok, Option, Some, None}
use Rattle.answers.specs.Table.{Answer, wholes, next}
use Rattle.answers.specs.Listed.{listed}
use Rattle.answers.proofs.Next.{IsRule, says-passes, says-refused, rules}
use Rattle.answers.proofs.OneToOne.{done-not-refused}
use Rattle.answers.proofs.Rules.{picked, by_bool}
use Rattle.numbers.specs.Words.{word_of}
use Rattle.imapb.specs.Tables.{Reading, reads, refused, supported, length_rule, code_rules, read_unless}
use Rattle.imapb.specs.declared.decode.DecodedImapb.{DecodedImapb}
use Rattle.imapb.specs.declared.decode.DecodedImapb.TheVariants.{Value, Special, ReservedSpecial, OutOfRange}
use Rattle.ranges.specs.Range.{good_range, reading_in}
use Rattle.ranges.specs.Tables.{mapped_reading, worked_out, worked_read}
use Rattle.ranges.proofs.Reading.{good-told, worked-out-is}
use Rattle.layout.specs.declared.control.ParseControl.{ParseControl}
use Rattle.elements.specs.Elements.{part}
use Rattle.elements.specs.Numbers.{element_rule}
use Rattle.elements.proofs.Parts.{part-whole}
use Rattle.deviations.specs.declared.form.DeviationRange.{DeviationRange}
use Rattle.deviations.specs.Range.{lent_rule, value_rule, format_over, row_part, deviation_over}
use Rattle.deviations.specs.declared.form.DeviationForm.{DeviationForm}
use Rattle.deviations.specs.declared.form.DeviationForm.TheVariants.{Plain, Mapped}
use Rattle.deviations.specs.Form.{form_listed, form_of, form_format, form_bits, reading_rule}

-- a code of a length that is supported, over a good range, reads as the definition has it
worked-is : (min max : Float) (L : ℕ) → good_range min max ≡ true → supported L ≡ true → (raw : List ℕ) → length raw ≡ L
    → worked_read (worked_out min max L) raw ≡ reads (reading_in min max L (word_of raw))
worked-is min max L good s raw e = worked-out-is min max L raw ∙ rw (s, good, eq-eqb (length raw) L e)

module _ (bytes : List ℕ) (at : ℕ) (c : ParseControl) (row : ℕ) where
  abbrev raw : List ℕ
  raw = part bytes at c.slen

  module _ (min max : Float) (good : good_range min max ≡ true) (there : c.slen ≤ length bytes - at) where
    size : length raw ≡ c.slen
    size = part-whole bytes at c.slen there

    -- with Sf=1: refused alike, whether there are codes of that length or not
    mapped-rule : reading_rule row (worked_read (worked_out min max c.slen) raw)
        ≡ next (length_rule c.slen) (value_rule row (reading_in min max c.slen (word_of raw)))
    mapped-rule =
        by_bool (supported c.slen)
        (λ s. rw (worked-is min max c.slen good s raw size, s))
        (λ s. rw s)

  -- rule h) of one deviation
  pub form-rule : (range : Option DeviationRange) → (lent_rule range).number ≡ 0
      → element_rule bytes at c.slen (form_format (form_of range c) c row raw) ≡ element_rule bytes at c.slen (format_over range c row raw)
  form-rule None z = refl
  form-rule (Some range) z =
      by_bool c.sf
      (λ t. rw t
      (elim (dec_le c.slen (length bytes - at)) [
        | yes h ↦ rw (mapped-rule range.min range.max (good-told range.min range.max z) h)
        | no h ↦ rw (lt-ltb (length bytes - at) c.slen (lt_of_not-le h))
      ]))
      (λ f. rw f)

-- and its number, where it is not refused: row i of those that start at `at`
pub form-bits : (bytes : List ℕ) (at : ℕ) (c : ParseControl) (i : ℕ) (range : Option DeviationRange) → (lent_rule range).number ≡ 0
    → c.slen ≤ length bytes - (at + i * c.slen) → (form_format (form_of range c) c i (row_part bytes at c i)).number ≡ 0
    → form_bits (form_of range c) c (row_part bytes at c i) ≡ deviation_over range bytes at c i
form-bits bytes at c i None z there e = refl
form-bits bytes at c i (Some range) z there e =
    by_bool c.sf
    (λ t. by_bool (supported c.slen)
    (λ s. rw (t, worked-is range.min range.max c.slen (good-told range.min range.max z) s (row_part bytes at c i) (part-whole bytes (at + i * c.slen) c.slen there)))
    (λ s. absurd (let n : ◌≡◌ {A = ℕ} 4 0 = rw (t, s) at e in omega arith)))
    (λ f. rw f)

-- ---- a deviation's format refuses, or says nothing more
value-says : (row : ℕ) (d : DecodedImapb) → IsRule (value_rule row d)
value-says row (Value x) = says-passes refl
value-says row (Special s) = says-refused 8 (wholes (row ∷ [])) tt
value-says row (ReservedSpecial y) = says-refused 8 (wholes (row ∷ [])) tt
value-says row (OutOfRange x) = says-refused 8 (wholes (row ∷ [])) tt

reading-says : (row : ℕ) (rules : Answer) (d : DecodedImapb) → IsRule (reading_rule row (read_unless rules d))
reading-says row rules d =
    picked (λ (r : Reading). IsRule (reading_rule row r)) (eqb rules.number 0) (reads d) (refused rules)
    (λ _. value-says row d) (λ f. record { done = λ z. absurd (eqb-false rules.number 0 f z) })

pub form-says : (form : DeviationForm) (c : ParseControl) (row : ℕ) (raw : List ℕ) → IsRule (form_format (form_listed form) c row raw)
form-says Plain c row raw = search rules
form-says (Mapped (Ok m)) c row raw =
    reading-says row (code_rules m.length raw) (mapped_reading m (word_of raw))
form-says (Mapped (Err r)) c row raw = record { done = λ z. absurd (done-not-refused (listed r) r z refl) }
