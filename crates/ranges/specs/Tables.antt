-- The answers over a range, in their order: 4 for a length that is not 1 to 8, 9 for a bad range, 2 for a slice of
-- another length; 4 and 2 as `imapb` has them.
use Rattle.std.specs.Prelude.{ℕ, List, [], pos, nat_le, Float, Err, Ok, Result}
use Rattle.std.specs.Float.{binary64}
use Rattle.std.specs.Float.Ieee.{add, sub, mul, of_int}
use Rattle.answers.specs.Table.{Answer, answer, pick, passes, next}
use Rattle.answers.specs.Listed.{listed}
use Rattle.answers.specs.Outcome.{Outcome, found, unless}
use Rattle.answers.specs.Outcome as outcome
use Rattle.numbers.specs.Words.{word_of}
use Rattle.imapb.specs.declared.decode.DecodedImapb.{DecodedImapb}
use Rattle.imapb.specs.declared.decode.DecodedImapb.TheVariants.{Value, OutOfRange}
use Rattle.imapb.specs.Special.{unless_special}
use Rattle.imapb.specs.Tables.{Reading, refused, length_rule, slice_rule, code_rules, read_unless}
use Rattle.ranges.specs.declared.mapping.RangeMapping.{RangeMapping}
use Rattle.ranges.specs.Range.{good_range, step_in, offset_in, top_in, reading_in}
use Rattle.answers.specs.declared.Refusal.{Refusal}

abbrev pub range_rule : Float → Float → Answer
range_rule min max = pick (good_range min max) passes (answer 9 [])

-- the definition of a code's reading over a range
abbrev pub imapb_read_in : Float → Float → ℕ → List ℕ → Reading
imapb_read_in min max L bytes =
    read_unless (next (length_rule L) (next (range_rule min max) (slice_rule L bytes))) (reading_in min max L (word_of bytes))

-- ---- what a range and a length decide, worked out
abbrev pub mapping_in : Float → Float → ℕ → RangeMapping
mapping_in min max L =
    record { length = L; min = min; step = step_in min max L; offset = offset_in min max L; top = top_in min max L }

abbrev pub range_listed : Result RangeMapping Refusal → Outcome RangeMapping
range_listed (Ok m) = found m
range_listed (Err r) = outcome.refused (listed r)

abbrev pub worked_out : Float → Float → ℕ → Outcome RangeMapping
worked_out min max L = unless (next (length_rule L) (range_rule min max)) (mapping_in min max L)

-- ---- and what a code reads as by it: a value exactly when y is at most the top code
abbrev pub mapped_value : RangeMapping → ℕ → Float
mapped_value m y =
    add binary64 (mul binary64 m.step (sub binary64 (of_int binary64 (pos y)) m.offset)) m.min

abbrev pub mapped_number : RangeMapping → ℕ → DecodedImapb
mapped_number m y = pick (nat_le y m.top) (Value (mapped_value m y)) (OutOfRange (mapped_value m y))

abbrev pub mapped_reading : RangeMapping → ℕ → DecodedImapb
mapped_reading m y = unless_special m.length y (mapped_number m y)

abbrev pub mapped_read : RangeMapping → List ℕ → Reading
mapped_read m bytes =
    read_unless (code_rules m.length bytes) (mapped_reading m (word_of bytes))

abbrev pub worked_read : Outcome RangeMapping → List ℕ → Reading
worked_read (found m) bytes = mapped_read m bytes
worked_read (outcome.refused a) bytes = refused a
