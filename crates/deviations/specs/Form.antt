-- How deviations are read, worked out of a range and a control; and one deviation by it.
use Rattle.std.specs.Prelude.{ℕ, List, Option, Some, None}
use Rattle.answers.specs.Table.{Answer, pick}
use Rattle.answers.specs.Outcome.{Outcome, unless}
use Rattle.imapb.specs.Tables.{Reading, reads}
use Rattle.imapb.specs.Tables as imapb
use Rattle.ranges.specs.declared.mapping.RangeMapping.{RangeMapping}
use Rattle.ranges.specs.Tables.{range_listed, worked_out, worked_read}
use Rattle.layout.specs.declared.control.ParseControl.{ParseControl}
use Rattle.elements.specs.Elements.{part, ieee, value_bits}
use Rattle.elements.specs.Formats.{deviation_format}
use Rattle.elements.specs.Numbers.{element}
use Rattle.deviations.specs.declared.form.DeviationRange.{DeviationRange}
use Rattle.deviations.specs.declared.form.DeviationForm.{DeviationForm}
use Rattle.deviations.specs.declared.form.DeviationForm.TheVariants.{Plain, Mapped}
use Rattle.deviations.specs.Range.{value_rule}

-- as the pack says, or over a range that is lent, with what it and Slen decide
pub data Form : Type 0 where
  plain : Form
  mapped : Outcome RangeMapping → Form

abbrev pub form_listed : DeviationForm → Form
form_listed Plain = plain
form_listed (Mapped range) = mapped (range_listed range)

-- the range counts only where Sf=1
abbrev pub form_of : Option DeviationRange → ParseControl → Form
form_of None c = plain
form_of (Some range) c = pick c.sf (mapped (worked_out range.min range.max c.slen)) plain

-- ---- one deviation by its form: what it refuses, and its number
abbrev pub reading_rule : ℕ → Reading → Answer
reading_rule row (reads d) = value_rule row d
reading_rule row (imapb.refused a) = a

abbrev pub reading_bits : Reading → ℕ
reading_bits (reads d) = value_bits d
reading_bits (imapb.refused a) = 0

abbrev pub form_format : Form → ParseControl → ℕ → List ℕ → Answer
form_format plain c row raw = deviation_format c
form_format (mapped range) c row raw = reading_rule row (worked_read range raw)

abbrev pub form_bits : Form → ParseControl → List ℕ → ℕ
form_bits plain c raw = ieee c.slen raw
form_bits (mapped range) c raw = reading_bits (worked_read range raw)

-- the deviation of a row, which starts at `at`
abbrev pub form_number : List ℕ → ℕ → ParseControl → Form → ℕ → Outcome ℕ
form_number bytes at c f row =
    element bytes at c.slen (form_format f c row (part bytes at c.slen)) (form_bits f c (part bytes at c.slen))

-- what a code's answer is as a deviation's
abbrev pub code_deviation : ℕ → Reading → Outcome ℕ
code_deviation row r = unless (reading_rule row r) (reading_bits r)
