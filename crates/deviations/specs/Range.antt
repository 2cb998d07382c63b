-- Deviations over a range that is lent, or over none: what rule h) refuses, and the numbers. Without a range, with Sf=0
-- and in Mode 1, which has no Sf, all is as `elements` has it.
use Rattle.std.specs.Prelude.{ℕ, ◌+◌, ◌*◌, List, [], ◌∷◌, Float, Option, Some, None}
use Rattle.answers.specs.Table.{Answer, answer, wholes, pick, passes, next}
use Rattle.answers.specs.Lent.{tab}
use Rattle.numbers.specs.Words.{word_of}
use Rattle.imapb.specs.declared.decode.DecodedImapb.{DecodedImapb}
use Rattle.imapb.specs.declared.decode.DecodedImapb.TheVariants.{Value, Special, ReservedSpecial, OutOfRange}
use Rattle.imapb.specs.Tables.{length_rule}
use Rattle.ranges.specs.Range.{reading_in}
use Rattle.ranges.specs.Tables.{range_rule}
use Rattle.layout.specs.declared.control.ParseControl.{ParseControl}
use Rattle.layout.specs.declared.header.Head.{Head}
use Rattle.elements.specs.Elements.{part, value_bits, deviation_count, deviations_at, deviation_in}
use Rattle.elements.specs.Formats.{deviation_format}
use Rattle.deviations.specs.declared.form.DeviationRange.{DeviationRange}

-- a range that is lent
abbrev pub known : Float → Float → Option DeviationRange
known min max = Some (record { min = min; max = max })

-- a bad range: 9, whatever Sf is
abbrev pub lent_rule : Option DeviationRange → Answer
lent_rule None = passes
lent_rule (Some range) = range_rule range.min range.max

-- a code that is no value: 8 with the row
abbrev pub value_rule : ℕ → DecodedImapb → Answer
value_rule row (Value x) = passes
value_rule row (Special s) = answer 8 (wholes (row ∷ []))
value_rule row (ReservedSpecial y) = answer 8 (wholes (row ∷ []))
value_rule row (OutOfRange x) = answer 8 (wholes (row ∷ []))

-- h) of the row whose bytes are given. With a range and Sf=1: Slen above 8 (or 0, where there is no deviation): 4; a
-- code that is no value: 8 with the row
abbrev pub format_over : Option DeviationRange → ParseControl → ℕ → List ℕ → Answer
format_over None c row raw = deviation_format c
format_over (Some range) c row raw =
    pick c.sf
    (next (length_rule c.slen) (value_rule row (reading_in range.min range.max c.slen (word_of raw))))
    (deviation_format c)

-- the bytes of row i of deviations that start at `at`
abbrev pub row_part : List ℕ → ℕ → ParseControl → ℕ → List ℕ
row_part bytes at c i = part bytes (at + i * c.slen) c.slen

-- deviation i of those that start at `at`: with a range and Sf=1 what its code reads as
abbrev pub deviation_over : Option DeviationRange → List ℕ → ℕ → ParseControl → ℕ → ℕ
deviation_over None bytes at c i = deviation_in bytes at c i
deviation_over (Some range) bytes at c i =
    pick c.sf (value_bits (reading_in range.min range.max c.slen (word_of (row_part bytes at c i))))
    (deviation_in bytes at c i)

abbrev pub deviations_over : Option DeviationRange → List ℕ → Head → List ℕ
deviations_over range bytes h =
    tab (deviation_count h) (deviation_over range bytes (deviations_at h) h.control)
