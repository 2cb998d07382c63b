-- Computed: what the definitions say of small sets.
-- Assumes nothing.
use mathlib.Core.Path.{◌≡◌, refl}
use mathlib.Core.List.{List, [], ◌∷◌}
use Prim.Native.Nat.{ℕ}
use Rattle.answers.specs.Table.{answer, short, wholes}
use Rattle.numbers.specs.BerOid.{oid_read, oid_read_strict}
use Rattle.numbers.specs.Ber.{ber_read, ber_read_strict}
use Rattle.numbers.specs.Words.{word_of}
use Rattle.layout.specs.Triangle.{slots_of}
use Rattle.sets.specs.Items.{item_at, items_up_to, items_of}
use Rattle.sets.specs.Packs.{tags_of, place, packs_of}
use Rattle.sets.specs.Rules.{counts, set_answer}

-- tag 2, the checksum, a pack of no rows, tag 128 without a value, a pack of one row
abbrev Five : List ℕ
Five = 0x02 ∷ 0x01 ∷ 0xaa ∷ 0x01 ∷ 0x02 ∷ 0x00 ∷ 0x00 ∷ 0x66 ∷ 0x02 ∷ 0x00 ∷ 0x10 ∷ 0x81 ∷ 0x00 ∷ 0x00 ∷ 0x66 ∷ 0x03 ∷ 0x01 ∷ 0x10 ∷ 0x05 ∷ []

five : set_answer Five 2 ≡ counts 2 2
unfolding items_up_to item_at oid_read_strict oid_read ber_read_strict ber_read word_of slots_of
five = refl

-- neither the packs nor the checksum are among the tags; no rows refine none of them, and one row the last
five-tags : tags_of (items_of Five) ≡ 2 ∷ 128 ∷ []
unfolding items_up_to item_at oid_read_strict oid_read ber_read_strict ber_read word_of slots_of
five-tags = refl

five-packs : packs_of Five 0 (items_of Five) ≡ place 9 11 1 1 ∷ place 16 19 1 2 ∷ []
unfolding items_up_to item_at oid_read_strict oid_read ber_read_strict ber_read word_of slots_of
five-packs = refl

-- a list that is full is told at the tag that it has no room for
full : set_answer Five 1 ≡ answer 5 (wholes (2 ∷ 1 ∷ []))
unfolding items_up_to item_at oid_read_strict oid_read ber_read_strict ber_read word_of slots_of
full = refl

-- an item that ends too late, though the list is full; a needless long form; a leading 80
late : set_answer (0x02 ∷ 0x00 ∷ 0x03 ∷ 0x02 ∷ 0x00 ∷ []) 1 ≡ answer 10 (wholes (2 ∷ []))
unfolding items_up_to item_at oid_read_strict oid_read ber_read_strict ber_read word_of
late = refl

needless : set_answer (0x02 ∷ 0x81 ∷ 0x7f ∷ []) 9 ≡ answer 10 (wholes (0 ∷ []))
unfolding items_up_to item_at oid_read_strict oid_read ber_read_strict ber_read word_of
needless = refl

leading : set_answer (0x80 ∷ 0x02 ∷ 0x00 ∷ []) 9 ≡ answer 10 (wholes (0 ∷ []))
unfolding items_up_to item_at oid_read_strict
leading = refl

-- a pack that peek does not pass, before an item that can't be read
unpeeked : set_answer (0x66 ∷ 0x00 ∷ 0x80 ∷ []) 0 ≡ short 0 0
unfolding items_up_to item_at oid_read_strict oid_read ber_read_strict ber_read word_of
unpeeked = refl

-- no item at all
empty : set_answer [] 0 ≡ counts 0 0
unfolding items_up_to
empty = refl
