-- The reading of a code by what its range and its length decide is the definition's: a good range leaves nothing for its
-- two other tests.
-- Assumes nothing.
use Rattle.std.proofs.Common.{◌≡◌, ℕ, ◌^◌, ◌<◌, ◌≤◌, true, T, List, [], sym, ap, mod-lt, arith, pow_pos}
use lib.Ieee.{Float}
use Rattle.answers.specs.Table.{answer, passes}
use Rattle.answers.proofs.Rules.{picked, by_bool}
use Rattle.numbers.specs.Words.{word_of}
use Rattle.imapb.specs.Special.{unless_special}
use Rattle.imapb.specs.Tables.{supported, slice_rule, read_unless}
use Rattle.imapb.specs.declared.decode.DecodedImapb.{DecodedImapb}
use Rattle.imapb.proofs.Length.{lengths}
use Rattle.ranges.specs.Range.{good_range, reading_in}
use Rattle.ranges.specs.Tables.{range_rule, mapped_reading, mapping_in, worked_out, worked_read, imapb_read_in}
use Rattle.ranges.proofs.Number.{number_is}

pub word_small : (raw : List ℕ) → word_of raw < 2 ^ 64
unfolding word_of
word_small raw = mod-lt _ (pow_pos 64)

pub reading-is : (min max : Float) → T (good_range min max) → (L : ℕ) → 1 ≤ L → L ≤ 8 → (raw : List ℕ)
    → mapped_reading (mapping_in min max L) (word_of raw) ≡ reading_in min max L (word_of raw)
reading-is min max good L least most raw =
    ap (λ (d : DecodedImapb). unless_special L (word_of raw) d) (sym (number_is min max good L least most (word_of raw) (word_small raw)))

-- a range that is not refused is good
pub good-told : (min max : Float) → (range_rule min max).number ≡ 0 → good_range min max ≡ true
good-told min max = picked (λ a. a.number ≡ 0 → good_range min max ≡ true) (good_range min max) passes (answer 9 []) (λ t _. t) (λ _ z. absurd (omega arith))

-- the reading by what was worked out, refused or not, is the definition's
pub worked-out-is : (min max : Float) (L : ℕ) (bytes : List ℕ) → worked_read (worked_out min max L) bytes ≡ imapb_read_in min max L bytes
worked-out-is min max L bytes =
    by_bool (supported L)
    (λ s. by_bool (good_range min max)
    (λ g. rw (s, g, s) (ap (λ (d : DecodedImapb). read_unless (slice_rule L bytes) d) (let l = lengths L s in reading-is min max (rw g tt) L l.0 l.1 bytes)))
    (λ b. rw (s, b)))
    (λ s. rw s)
