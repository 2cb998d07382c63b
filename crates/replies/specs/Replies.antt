-- Which reply what the codec answers has: the place of its form, and its values.
use Rattle.std.specs.Prelude.{ℕ, ◌+◌, ◌-◌, ◌%◌, ◌^◌, Bool, get_or, Err, None, Ok, Some, Result, Option}
use Rattle.std.specs.Float.{binary32, binary64}
use Rattle.std.specs.Float.Ieee.{to_bits}
use Rattle.answers.specs.Table.{pick}
use Rattle.answers.specs.Row.{row_of}
use Rattle.answers.specs.declared.row.Row.{Row}
use Rattle.answers.specs.declared.Refusal.{Refusal}
use Rattle.answers.specs.declared.Refusal.TheVariants.{TruncatedField}
use Rattle.numbers.specs.Conversions.{converted}
use Rattle.numbers.specs.declared.ber_oid.BerOid.{BerOid}
use Rattle.numbers.specs.declared.ber.BerLength.{BerLength}
use Rattle.imapb.specs.declared.decode.DecodedImapb.{DecodedImapb}
use Rattle.imapb.specs.declared.decode.DecodedImapb.TheVariants.{Value, Special, ReservedSpecial, OutOfRange}
use Rattle.sets.specs.declared.pack.PackPlace.{PackPlace}
use Rattle.sets.specs.declared.set.SetCounts.{SetCounts}
use Rattle.replies.specs.declared.reply.Reply.{Reply}
use Rattle.replies.specs.Places.{refused_at, refused_bits_at, bits_at, bits32_at, oid_at, length_at, size_at, nothing_at}
use Rattle.replies.specs.Places.{value_at, outside_at, reserved_at, number_at, no_at, yes_at}
use Rattle.replies.specs.Places.{counts_at, set_counts_at, pack_at}
use Rattle.replies.specs.Reply.{reply, one_reply, words_reply}
use Rattle.replies.specs.Special.{special_reply}
use Rattle.layout.specs.declared.pack.SdccFlp.{SdccFlp}

-- ---- a refusal: its number, and its values in decimal, or in hex where they are the bits of binary64 numbers
abbrev pub refused_form : ℕ → Bool → ℕ
refused_form count floats = pick floats refused_bits_at (refused_at + count)

abbrev pub row_reply : Row → Reply
row_reply r =
    reply (refused_form r.count r.floats) r.number
    (get_or r.values 0 0) (get_or r.values 1 0) (get_or r.values 2 0)

abbrev pub refused_reply : Refusal → Reply
refused_reply r = row_reply (row_of r)

-- ---- numbers
abbrev pub widen_reply : ℕ → Reply
widen_reply bits = one_reply bits_at (converted binary32 binary64 (bits % 2 ^ 32))

abbrev pub narrow_reply : ℕ → Reply
narrow_reply bits = one_reply bits32_at (converted binary64 binary32 bits)

-- ---- what is read at the front of so many bytes: its value, and how many bytes are left
abbrev pub front_reply : ℕ → ℕ → ℕ → ℕ → Reply
front_reply form value taken count = reply form value (count - taken) 0 0

abbrev pub oid_or : Reply → Option BerOid → ℕ → Reply
oid_or unreadable (Some o) count = front_reply oid_at o.value o.taken count
oid_or unreadable None count = unreadable

-- of one that is unreadable refusal 1 with 0 and 0, and by the strict reading nothing
abbrev pub oid_reply : Option BerOid → ℕ → Reply
oid_reply read count = oid_or (refused_reply (TruncatedField 0 0)) read count

abbrev pub strict_oid_reply : Option BerOid → ℕ → Reply
strict_oid_reply read count = oid_or (words_reply nothing_at) read count

abbrev pub ber_reply : Option BerLength → ℕ → Reply
ber_reply (Some l) count = front_reply length_at l.value l.taken count
ber_reply None count = words_reply nothing_at

-- ---- a mapped value
abbrev pub decoded_reply : DecodedImapb → Reply
decoded_reply (Value x) = one_reply value_at (to_bits binary64 x)
decoded_reply (Special s) = special_reply s
decoded_reply (ReservedSpecial raw) = one_reply reserved_at raw
decoded_reply (OutOfRange x) = one_reply outside_at (to_bits binary64 x)

abbrev pub mapped_reply : Result DecodedImapb Refusal → Reply
mapped_reply (Ok d) = decoded_reply d
mapped_reply (Err r) = refused_reply r

-- ---- a pack
abbrev pub peek_reply : Option ℕ → Reply
peek_reply (Some n) = one_reply size_at n
peek_reply None = words_reply nothing_at

-- N, the deviation count and M
abbrev pub read_reply : Result SdccFlp Refusal → Reply
read_reply (Ok p) = reply counts_at p.matrix_size p.deviations p.slots 0
read_reply (Err r) = refused_reply r

abbrev pub cell_reply : Result ℕ Refusal → Reply
cell_reply (Ok bits) = one_reply number_at bits
cell_reply (Err r) = refused_reply r

abbrev pub usable_reply : Bool → Reply
usable_reply usable = words_reply (pick usable yes_at no_at)

-- ---- a set: how many packs and tags it has
abbrev pub set_reply : Result SetCounts Refusal → Reply
set_reply (Ok c) = reply set_counts_at c.packs c.tags 0 0
set_reply (Err r) = refused_reply r

-- where a pack starts and ends in the set, and its tags in the list
abbrev pub place_reply : PackPlace → Reply
place_reply p = reply pack_at p.start p.end p.from p.to

-- ---- what writes: the form of what is done, with the count of bytes
abbrev pub written_reply : ℕ → Result ℕ Refusal → Reply
written_reply form (Ok count) = one_reply form count
written_reply form (Err r) = refused_reply r
