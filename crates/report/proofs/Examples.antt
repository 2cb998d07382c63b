-- What is printed of some packs, computed.
-- Assumes nothing.
use mathlib.Core.Path.{◌≡◌, refl}
use mathlib.Core.List.{[], ◌∷◌, ◌++◌}
use lib.Ieee.{of_bits, to_bits, of_int, to_unsigned, add, sub, mul, div, le, round, nan_bits}
use lib.ListN.{replicate}
use Rattle.answers.specs.declared.Refusal.TheVariants.{NoDeviation, InvalidImapbParams}
use Rattle.answers.specs.Listed.{listed}
use Rattle.numbers.specs.BerOid.{oid_read}
use Rattle.numbers.specs.Words.{word_of}
use Rattle.numbers.specs.Conversions.{nearest, converted}
use Rattle.imapb.specs.Mapping.{value}
use Rattle.layout.specs.Triangle.{slots_of, slot_of}
use Rattle.text.specs.Text.{ascii, places, hex}
use Rattle.lines.specs.Lines.{refused_line}
use Rattle.report.specs.Printed.{printed}

-- P1 of document 01
first : printed (0x02 ∷ 0x91 ∷ 0x04 ∷ 0x3F ∷ 0x80 ∷ 0x00 ∷ 0x00 ∷ 0x40 ∷ 0x00 ∷ 0x00 ∷ 0x00 ∷ 0x60 ∷ [])
    ≡ ascii "n 2 deviations 2 slots 1\n" ++ ascii "s 0 3FF0000000000000\n" ++ ascii "s 1 4000000000000000\n" ++ ascii "c 0 1 1 3FE0000000000000\n"
unfolding printed oid_read word_of slots_of slot_of converted nearest value of_bits to_bits of_int to_unsigned add sub mul div le round nan_bits places hex
first = refl

-- P7
seventh : printed (0x82 ∷ 0x01 ∷ 0x80 ∷ 0x04 ∷ []) ≡ ascii "refused 3 257 0 256\n"
unfolding printed oid_read slots_of places
seventh = refl

-- P8, which has 256 rows of four bytes and none of them
eighth : printed (0x82 ∷ 0x00 ∷ 0x80 ∷ 0x04 ∷ []) ≡ ascii "refused 1 1024 0\n"
unfolding printed oid_read slots_of places
eighth = refl

-- 65 rows are too many, before anything else is refused; with 64 the reader answers
rows-65 : printed (0x41 ∷ 0x90 ∷ 0x01 ∷ replicate 65 0) ≡ ascii "too big for this program\n"
unfolding printed oid_read slots_of
rows-65 = refl

rows-64 : printed (0x40 ∷ 0x90 ∷ 0x01 ∷ replicate 64 0) ≡ ascii "refused 2 0 1\n"
unfolding printed oid_read slots_of places
rows-64 = refl

-- the refusals that a range adds: a row that is no value, and a bad range
row-refused : refused_line (listed (NoDeviation 0)) ≡ ascii "refused 8 0\n"
unfolding places
row-refused = refl

range-refused : refused_line (listed InvalidImapbParams) ≡ ascii "refused 9\n"
unfolding places
range-refused = refl
