-- What is printed of some sets, computed.
-- Assumes nothing.
use mathlib.Core.Path.{◌≡◌, refl}
use mathlib.Core.List.{[], ◌∷◌, ◌++◌}
use lib.Ieee.{of_bits, to_bits, of_int, to_unsigned, add, sub, mul, div, le, round, nan_bits}
use Rattle.numbers.specs.Ber.{ber_read, ber_read_strict}
use Rattle.numbers.specs.BerOid.{oid_read, oid_read_strict}
use Rattle.numbers.specs.Words.{word_of}
use Rattle.numbers.specs.Conversions.{nearest, converted}
use Rattle.imapb.specs.Mapping.{value}
use Rattle.layout.specs.Triangle.{slots_of, slot_of}
use Rattle.sets.specs.Items.{item_at, items_up_to}
use Rattle.text.specs.Text.{ascii, places, hex}
use Rattle.packs.specs.Printed.{printed}

-- the stored example: tags 2, 19 and 144 before a sparse pack of three rows; the checksum, and tag 5, before a pack of none;
-- a pack that the reader refuses by k); and tag 7
stored : printed
    (0x02 ∷ 0x01 ∷ 0x05 ∷ 0x13 ∷ 0x02 ∷ 0xAA ∷ 0xBB ∷ 0x81 ∷ 0x10 ∷ 0x01 ∷ 0x07
    ∷ 0x66 ∷ 0x11 ∷ 0x03 ∷ 0xB1 ∷ 0x04 ∷ 0x40 ∷ 0x3F ∷ 0x80 ∷ 0x00 ∷ 0x00 ∷ 0x40 ∷ 0x00 ∷ 0x00 ∷ 0x00 ∷ 0x3F ∷ 0x80 ∷ 0x00 ∷ 0x00 ∷ 0x60
    ∷ 0x01 ∷ 0x02 ∷ 0x12 ∷ 0x34 ∷ 0x05 ∷ 0x01 ∷ 0x09 ∷ 0x66 ∷ 0x03 ∷ 0x00 ∷ 0x91 ∷ 0x04
    ∷ 0x66 ∷ 0x0D ∷ 0x02 ∷ 0x91 ∷ 0x04 ∷ 0x3F ∷ 0x80 ∷ 0x00 ∷ 0x00 ∷ 0x40 ∷ 0x00 ∷ 0x00 ∷ 0x00 ∷ 0x60 ∷ 0x00 ∷ 0x07 ∷ 0x00 ∷ [])
    ≡ ascii "set 3 5\n"
    ++ ascii "pack 13 30\n"
    ++ ascii "tags 2 19 144\n"
    ++ ascii "n 3 deviations 3 slots 3\n"
    ++ ascii "s 0 3FF0000000000000\n"
    ++ ascii "s 1 4000000000000000\n"
    ++ ascii "s 2 3FF0000000000000\n"
    ++ ascii "c 0 1 0 0000000000000000\n"
    ++ ascii "c 0 2 1 3FE0000000000000\n"
    ++ ascii "c 1 2 0 0000000000000000\n"
    ++ ascii "pack 39 42\n"
    ++ ascii "tags -\n"
    ++ ascii "n 0 deviations 0 slots 0\n"
    ++ ascii "pack 44 57\n"
    ++ ascii "tags 144 5\n"
    ++ ascii "refused 2 12 13\n"
unfolding printed item_at items_up_to ber_read ber_read_strict oid_read oid_read_strict word_of slots_of slot_of converted nearest value of_bits to_bits of_int to_unsigned add sub mul div le round nan_bits places hex
stored = refl

-- a value that runs past the set's end, in the second item
item_refused : printed (0x02 ∷ 0x01 ∷ 0x05 ∷ 0x13 ∷ 0x02 ∷ 0xAA ∷ []) ≡ ascii "refused 10 3\n"
unfolding printed item_at items_up_to ber_read ber_read_strict oid_read oid_read_strict places
item_refused = refl

-- nothing
empty : printed [] ≡ ascii "set 0 0\n"
unfolding printed items_up_to places
empty = refl
