-- Document 01, "Packs and values on both sides of each limit": the marked ones, P1 to P12.
use Rattle.std.specs.Prelude.{ℕ, Bool, true, false, List, [], ◌∷◌, ◌++◌, eqb, length, replicate, Option, None}
use Rattle.std.specs.Float.{binary64}
use Rattle.std.specs.Float.Ieee.{of_bits}
use Rattle.answers.specs.Table.{Answer, answer, short, wholes, pick}
use Rattle.layout.specs.Size.{max_rows, max_slots}
use Rattle.elements.specs.Elements.{head_of, correlations, states}
use Rattle.deviations.specs.declared.form.DeviationRange.{DeviationRange}
use Rattle.deviations.specs.Range.{known, deviations_over}
use Rattle.reader.specs.Rules.{read_answer_in}
use Rattle.writer.specs.Pack.{pack_bytes}
use Rattle.writer.specs.Rules.{write_answer}
use Rattle.trip.specs.Usable.{usable_read}

-- what reading gives: the answer, and where it is done the three lists, and whether they are usable
pub record Outcome : Type 0 where
  pub answers : Answer
  pub deviations : List ℕ
  pub correlations : List ℕ
  pub states : List ℕ
  pub usable : Bool

abbrev pub outcome_of : Answer → List ℕ → List ℕ → List ℕ → Bool → Outcome
outcome_of a ds cs ss u = record { answers = a; deviations = ds; correlations = cs; states = ss; usable = u }

-- nothing was read, and so nothing can be used
abbrev pub refused : Answer → Outcome
refused a = outcome_of a [] [] [] false

-- over a range or none, with room enough for any pack within the limits
abbrev pub outcome : Option DeviationRange → List ℕ → Outcome
outcome range bytes = given (read_answer_in range bytes max_rows max_slots max_slots)
  where
    given : Answer → Outcome
    given a =
        pick (eqb a.number 0)
        (outcome_of a (deviations_over range bytes (head_of bytes)) (correlations bytes (head_of bytes))
        (states bytes (head_of bytes)) (usable_read range bytes [] [] []))
        (refused a)

-- done, with N, the deviation count and M
abbrev pub done : ℕ → ℕ → ℕ → List ℕ → List ℕ → List ℕ → Bool → Outcome
done n d m ds cs ss u = outcome_of (answer 0 (wholes (n ∷ d ∷ m ∷ []))) ds cs ss u

-- 1 and 2 as binary32, and as binary64
abbrev D : List ℕ
D = 0x3F ∷ 0x80 ∷ 0x00 ∷ 0x00 ∷ 0x40 ∷ 0x00 ∷ 0x00 ∷ 0x00 ∷ []

abbrev deviations12 : List ℕ
deviations12 = 0x3FF0000000000000 ∷ 0x4000000000000000 ∷ []

abbrev one : ℕ
one = 0x3FF0000000000000

abbrev half : ℕ
half = 0x3FE0000000000000

-- a pack that is read, over a range by the bits of its ends or over none, and what it gives; or deviations, correlations
-- and Clen that are written, and their pack
pub data Row : Type 0 where
  reads : List ℕ → Outcome → Row
  reads_in : ℕ → ℕ → List ℕ → Outcome → Row
  writes : List ℕ → List ℕ → ℕ → List ℕ → Row

-- a pack of two rows with one correlation: its value, its state, and whether it can be used
abbrev pair : ℕ → ℕ → Bool → Outcome
pair c s u = done 2 2 1 deviations12 (c ∷ []) (s ∷ []) u

abbrev pub p_table : List Row
p_table =
    reads (0x02 ∷ 0x91 ∷ 0x04 ∷ (D ++ (0x60 ∷ []))) (pair half 1 true)
    ∷ reads (0x02 ∷ 0x91 ∷ 0x04 ∷ (D ++ (0x80 ∷ []))) (pair one 1 true)
    ∷ reads (0x02 ∷ 0x91 ∷ 0x04 ∷ (D ++ (0x81 ∷ []))) (pair 0 4 false)
    ∷ reads (0x02 ∷ 0x91 ∷ 0x04 ∷ (D ++ (0xC8 ∷ []))) (pair 0 2 false)
    ∷ reads (0x02 ∷ 0x41 ∷ (D ++ (0x60 ∷ []))) (pair half 1 true)
    ∷ reads (0x02 ∷ 0x80 ∷ 0x00 ∷ []) (refused (answer 2 (wholes (0 ∷ 0 ∷ []))))
    ∷ reads (0x82 ∷ 0x01 ∷ 0x80 ∷ 0x04 ∷ []) (refused (answer 3 (wholes (257 ∷ 0 ∷ 256 ∷ []))))
    ∷ reads (0x82 ∷ 0x00 ∷ 0x80 ∷ 0x04 ∷ []) (refused (short 1024 0))
    ∷ reads (0x00 ∷ 0x90 ∷ 0x04 ∷ []) (done 0 0 0 [] [] [] true)
    ∷ reads (0x02 ∷ 0xA0 ∷ 0x04 ∷ 0x80 ∷ D) (pair 0 0 true)
    ∷ reads (0x02 ∷ 0xBF ∷ 0x04 ∷ 0x00 ∷ D) (pair 0 0 true)
    ∷ writes deviations12 (0 ∷ []) 1 (0x02 ∷ 0xB1 ∷ 0x04 ∷ 0x00 ∷ D)
    ∷ []

-- packs that end too early, one for each rule that can lack bytes: the bytes needed and the bytes there
abbrev pub short_table : List Row
short_table =
    -- a) b) e)
    reads [] (refused (short 0 0))
    ∷ reads (0x02 ∷ 0x91 ∷ []) (refused (short 1 0))
    ∷ reads (0x02 ∷ 0x91 ∷ 0x04 ∷ []) (refused (short 8 0))
    -- f) three codes, g) ten bits
    ∷ reads (0x03 ∷ 0x01 ∷ 0x60 ∷ 0x60 ∷ []) (refused (short 3 2))
    ∷ reads (0x05 ∷ 0xA1 ∷ 0x00 ∷ 0xFF ∷ []) (refused (short 2 1))
    -- h) the last of five deviations, behind two bytes of bits
    ∷ reads (0x05 ∷ 0xA1 ∷ 0x04 ∷ 0x00 ∷ 0x00 ∷ (D ++ D ++ (0x3F ∷ 0x80 ∷ []))) (refused (short 4 2))
    -- i) a code of 15 bytes, j) the second of three codes of two bytes
    ∷ reads (0x02 ∷ 0xBF ∷ 0x04 ∷ 0x80 ∷ (D ++ replicate 14 0x60)) (refused (short 15 14))
    ∷ reads (0x03 ∷ 0x92 ∷ 0x04 ∷ (D ++ (0x3F ∷ 0x80 ∷ 0x00 ∷ 0x00 ∷ 0x60 ∷ 0x00 ∷ 0x60 ∷ []))) (refused (short 2 1))
    ∷ []

-- slots that are there without a number to show for it: of mapped form, behind eight bytes or fewer, and IEEE
abbrev pub state_table : List Row
state_table =
    -- infinity and a reserved pattern; above-maximum among three, the last of them absent
    reads (0x02 ∷ 0x91 ∷ 0x04 ∷ (D ++ (0xE8 ∷ []))) (pair 0 2 false)
    ∷ reads (0x02 ∷ 0x91 ∷ 0x04 ∷ (D ++ (0xE2 ∷ []))) (pair 0 3 false)
    ∷ reads (0x03 ∷ 0xB1 ∷ 0x00 ∷ 0xC0 ∷ 0xE1 ∷ 0x60 ∷ []) (done 3 0 3 [] (0 ∷ half ∷ 0 ∷ []) (2 ∷ 1 ∷ 0 ∷ []) false)
    -- an IEEE slot is a value, be it a NaN, which is no correlation
    ∷ reads (0x02 ∷ 0x84 ∷ 0x04 ∷ (D ++ (0x7F ∷ 0xC0 ∷ 0x00 ∷ 0x00 ∷ []))) (pair 0x7FF8000000000000 1 false)
    ∷ []

-- packs over a range, from 0 to 50 unless said: with Slen 2 the codes 0200 and 0400 are 1 and 2, and 6400 is the top code
abbrev fifty : ℕ
fifty = 0x4049000000000000

abbrev pub range_table : List Row
range_table =
    reads_in 0 fifty (0x02 ∷ 0x91 ∷ 0x12 ∷ 0x02 ∷ 0x00 ∷ 0x04 ∷ 0x00 ∷ 0x60 ∷ []) (pair half 1 true)
    -- with Sf=0 all is as without a range, and without one Sf=1 is refused as before
    ∷ reads_in 0 fifty (0x02 ∷ 0x91 ∷ 0x04 ∷ (D ++ (0x60 ∷ []))) (pair half 1 true)
    ∷ reads (0x02 ∷ 0x91 ∷ 0x12 ∷ 0x02 ∷ 0x00 ∷ 0x04 ∷ 0x00 ∷ 0x60 ∷ []) (refused (answer 2 (wholes (0 ∷ 2 ∷ []))))
    -- a code above the top code in row 1; Slen 9
    ∷ reads_in 0 fifty (0x02 ∷ 0x91 ∷ 0x12 ∷ 0x02 ∷ 0x00 ∷ 0x64 ∷ 0x01 ∷ 0x60 ∷ []) (refused (answer 8 (wholes (1 ∷ []))))
    ∷ reads_in 0 fifty (0x01 ∷ 0x90 ∷ 0x19 ∷ replicate 9 0) (refused (answer 4 (wholes (9 ∷ []))))
    -- a special in row 0 comes before the bytes that are missing at row 4
    ∷ reads_in 0 fifty (0x05 ∷ 0xA1 ∷ 0x12 ∷ 0x00 ∷ 0x00 ∷ 0xC8 ∷ replicate 7 0) (refused (answer 8 (wholes (0 ∷ []))))
    ∷ reads_in 0 fifty (0x05 ∷ 0xA1 ∷ 0x12 ∷ 0x00 ∷ 0x00 ∷ replicate 8 0) (refused (short 2 0))
    -- a bad range, 1 to 1, comes before a)
    ∷ reads_in one one [] (refused (answer 9 []))
    ∷ []

-- what a row comes to, with room for just that pack where it is written, and what it is to come to
pub data Result : Type 0 where
  read : Outcome → Result
  wrote : Answer → List ℕ → Result

abbrev pub comes_to : Row → Result
comes_to (reads bytes gives) = read (outcome None bytes)
comes_to (reads_in min max bytes gives) =
    read (outcome (known (of_bits binary64 min) (of_bits binary64 max)) bytes)
comes_to (writes ds cs L pack) = wrote (write_answer ds cs L (length pack)) (pack_bytes ds cs L)

abbrev pub is_to : Row → Result
is_to (reads bytes gives) = read gives
is_to (reads_in min max bytes gives) = read gives
is_to (writes ds cs L pack) = wrote (answer 0 (wholes (length pack ∷ []))) pack

abbrev pub outcomes : List Row → List Result
outcomes [] = []
outcomes (r ∷ rs) = comes_to r ∷ outcomes rs

abbrev pub expected : List Row → List Result
expected [] = []
expected (r ∷ rs) = is_to r ∷ expected rs
