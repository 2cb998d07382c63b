-- Document 01, "Mapped values alone": the answers, in its order.
use Rattle.std.specs.Prelude.{ℕ, ◌-◌, ◌*◌, ◌^◌, ◌≤◌, Bool, true, false, not, ◌&&◌, T, List, [], ◌∷◌, leb, ltb, eqb, length, Err, None, Ok, Some, Result, Option}
use Rattle.std.proofs.Common.{refl, leb→le}
use lib.Ieee.Fits.{and_l, and_r}
use Rattle.std.specs.Float.{binary64}
use Rattle.std.specs.Float.Ieee.{of_bits, to_bits}
use Rattle.answers.specs.Table.{Answer, answer, bits64, wholes, pick, passes, next}
use Rattle.answers.specs.Listed.{listed}
use Rattle.answers.specs.Outcome.{Outcome, found, unless}
use Rattle.answers.specs.Outcome as outcome
use Rattle.numbers.specs.Words.{word_of}
use Rattle.imapb.specs.declared.special.ImapbSpecial.{ImapbSpecial}
use Rattle.imapb.specs.declared.decode.DecodedImapb.{DecodedImapb}
use Rattle.imapb.specs.declared.code_length.CodeLength.{CodeLength}
use Rattle.imapb.specs.declared.code_length.Mapping.{Mapping}
use Rattle.imapb.specs.Mapping.{one, minus_one, scale_of, top_of, code_of, in_range}
use Rattle.imapb.specs.Special.{payload, reading}
use Rattle.answers.specs.declared.Refusal.{Refusal}

-- done carries what the code reads as
pub data Reading : Type 0 where
  reads : DecodedImapb → Reading
  refused : Answer → Reading

abbrev pub imapb_listed : Result DecodedImapb Refusal → Reading
imapb_listed (Ok d) = reads d
imapb_listed (Err r) = refused (listed r)

-- length 1 to 8
abbrev pub supported : ℕ → Bool
supported L = leb 1 L && leb L 8

-- any other: 4 with it
abbrev pub length_rule : ℕ → Answer
length_rule L = pick (supported L) passes (answer 4 (wholes (L ∷ [])))

-- a length that has codes
abbrev pub length_listed : Result CodeLength Refusal → Outcome ℕ
length_listed (Ok l) = found l.bytes
length_listed (Err r) = outcome.refused (listed r)

abbrev pub code_length : ℕ → Outcome ℕ
code_length L = unless (length_rule L) L

-- a slice of another length: 2 with the length and the slice's
abbrev pub slice_rule : ℕ → List ℕ → Answer
slice_rule L bytes = pick (eqb (length bytes) L) passes (answer 2 (wholes (L ∷ length bytes ∷ [])))

abbrev pub code_rules : ℕ → List ℕ → Answer
code_rules L bytes = next (length_rule L) (slice_rule L bytes)

-- what a code reads as where no rule refuses it
abbrev pub read_unless : Answer → DecodedImapb → Reading
read_unless rules d = pick (eqb rules.number 0) (reads d) (refused rules)

abbrev pub imapb_read : ℕ → List ℕ → Reading
imapb_read L bytes = read_unless (code_rules L bytes) (reading L (word_of bytes))

-- v, by its bits, is NaN, infinite or outside -1 to 1: 3 with it, -1, 1
abbrev pub range_rule : ℕ → Answer
range_rule v =
    pick (not (in_range (of_bits binary64 v)))
    (answer 3 (bits64 v ∷ bits64 (to_bits binary64 minus_one) ∷ bits64 (to_bits binary64 one) ∷ []))
    passes

-- the code alone, where there is one
abbrev pub imapb_code : ℕ → ℕ → Option ℕ
imapb_code L v =
    pick (supported L && in_range (of_bits binary64 v)) (Some (code_of L (of_bits binary64 v))) None

-- what the length decides, where it has codes
abbrev pub mapping_of : (L : ℕ) → 1 ≤ L → L ≤ 8 → Mapping
mapping_of L least most =
    record { length = L; scale = scale_of L; top = top_of L; least = least; most = most; scale_is = refl; top_is = refl }

-- a mapping where a test holds
abbrev pub mapping_if : (b : Bool) → (T b → Mapping) → Option Mapping
mapping_if true m = Some (m tt)
mapping_if false m = None

abbrev pub imapb_mapping : ℕ → Option Mapping
imapb_mapping L =
    mapping_if (supported L) (λ s. mapping_of L (leb→le 1 L (and_l (leb 1 L) (leb L 8) s)) (leb→le L 8 (and_r (leb 1 L) (leb L 8) s)))

abbrev pub imapb_written : ℕ → ℕ → ℕ → Answer
imapb_written L v room =
    next (length_rule L)
    (pick (ltb room L) (answer 5 (wholes (L ∷ room ∷ [])))
    (next (range_rule v)
    (answer 0 (wholes (L ∷ [])))))

abbrev pub special_written : ℕ → ImapbSpecial → ℕ → Answer
special_written L s room =
    next (length_rule L)
    (pick (ltb room L) (answer 5 (wholes (L ∷ room ∷ [])))
    (pick (leb (2 ^ (8 * L - 5)) (payload L s)) (answer 3 (wholes (payload L s ∷ 0 ∷ (2 ^ (8 * L - 5) - 1) ∷ [])))
    (answer 0 (wholes (L ∷ [])))))
