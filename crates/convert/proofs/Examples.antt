-- What the programs write of some packs and files, computed.
-- Assumes nothing.
use mathlib.Core.Path.{◌≡◌, refl}
use mathlib.Core.List.{List, [], ◌∷◌, ◌++◌}
use Prim.Native.Nat.{ℕ}
use lib.Ieee.{of_bits, to_bits, of_int, to_unsigned, add, sub, mul, div, le, round, nan_bits}
use lib.ListN.{replicate}
use Rattle.numbers.specs.BerOid.{oid_read, oid_bytes}
use Rattle.numbers.specs.Words.{word_of, bytes_of, low_word_of}
use Rattle.numbers.specs.Conversions.{nearest, converted}
use Rattle.imapb.specs.Mapping.{code, value}
use Rattle.layout.specs.Triangle.{slots_of, slot_of}
use Rattle.text.specs.Text.{ascii, places, hex}
use Rattle.text.specs.Numeral.{worth}
use Rattle.writer.specs.Pack.{form_bytes}
use Rattle.writer.specs.Rules.{default_clen}
use Rattle.npy_header.specs.Header.{header, size_in, break_in}
use Rattle.npy_export.specs.File.{body_of}
use Rattle.npy.specs.Matrix.{correlations_in}
use Rattle.npy.specs.Rules.{pair_rules}
use Rattle.convert.specs.Stream.{output, errors}
use Rattle.convert.specs.Converted.{npy_stream, pack_stream}
use Rattle.convert.specs.Enough.{npy_room, pack_room}

-- binary64s whose last six bytes are 0, low byte first
abbrev short : ℕ → ℕ → List ℕ
short low high = replicate 6 0 ++ (low ∷ high ∷ [])

-- the file of two rows whose deviations are 1 and 2, with these two entries beside the diagonal
abbrev two : List ℕ → List ℕ → List ℕ
two above below = header 2 ++ short 0xF0 0x3F ++ above ++ below ++ short 0x00 0x40

abbrev half : List ℕ
half = short 0xE0 0x3F

-- P1 of document 01 as a file; with infinity's code the correlation is 0.0
first : npy_stream (0x02 ∷ 0x91 ∷ 0x04 ∷ 0x3F ∷ 0x80 ∷ 0x00 ∷ 0x00 ∷ 0x40 ∷ 0x00 ∷ 0x00 ∷ 0x00 ∷ 0x60 ∷ []) npy_room ≡ output (two half half)
unfolding header places body_of oid_read word_of slots_of slot_of converted nearest value of_bits to_bits of_int to_unsigned add sub mul div le round nan_bits
first = refl

special : npy_stream (0x02 ∷ 0x91 ∷ 0x04 ∷ 0x3F ∷ 0x80 ∷ 0x00 ∷ 0x00 ∷ 0x40 ∷ 0x00 ∷ 0x00 ∷ 0x00 ∷ 0xC8 ∷ []) npy_room
    ≡ output (two (replicate 8 0) (replicate 8 0))
unfolding header places body_of oid_read word_of slots_of slot_of converted nearest value of_bits to_bits of_int to_unsigned add sub mul div le round nan_bits
special = refl

-- without deviations
without : npy_stream (0x02 ∷ 0x91 ∷ 0x00 ∷ 0x60 ∷ []) npy_room ≡ errors (ascii "refused 2 2 0\n")
unfolding oid_read slots_of places
without = refl

-- the file as a pack, by the writer's own Clen
back : pack_stream (two half half) default_clen pack_room
    ≡ output (0x02 ∷ 0x92 ∷ 0x04 ∷ 0x3F ∷ 0x80 ∷ 0x00 ∷ 0x00 ∷ 0x40 ∷ 0x00 ∷ 0x00 ∷ 0x00 ∷ 0x60 ∷ 0x00 ∷ [])
unfolding header size_in break_in worth places low_word_of correlations_in pair_rules form_bytes oid_bytes bytes_of slots_of converted nearest code of_bits to_bits of_int to_unsigned add sub mul div le round nan_bits
back = refl

-- two entries that differ, and a correlation of 2
differ : pack_stream (two half (short 0xE0 0xBF)) 1 pack_room ≡ errors (ascii "refused 12 0 1\n")
unfolding header size_in break_in worth places low_word_of pair_rules slots_of
differ = refl

outside : pack_stream (two (short 0x00 0x40) (short 0x00 0x40)) 1 pack_room
    ≡ errors (ascii "refused 3 4000000000000000 BFF0000000000000 3FF0000000000000\n")
unfolding header size_in break_in worth places hex low_word_of correlations_in pair_rules slots_of of_bits to_bits le
outside = refl

-- nothing
empty : pack_stream [] 1 pack_room ≡ errors (ascii "refused 11 0\n")
unfolding header size_in break_in worth places
empty = refl
