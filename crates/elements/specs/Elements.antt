-- The five elements of a pack, by the places where they start, and the numbers that they hold.
use Rattle.std.specs.Prelude.{ℕ, zero, suc, ◌+◌, ◌-◌, ◌*◌, ◌/◌, ◌%◌, ◌^◌, Bool, true, false, ◌||◌, List, eqb, get_or, take, drop}
use Rattle.std.specs.Float.{binary32, binary64}
use Rattle.std.specs.Float.Ieee.{to_bits}
use Rattle.answers.specs.Table.{pick}
use Rattle.answers.specs.Lent.{tab}
use Rattle.numbers.specs.Words.{word_of}
use Rattle.numbers.specs.Conversions.{converted}
use Rattle.imapb.specs.declared.decode.DecodedImapb.{DecodedImapb}
use Rattle.imapb.specs.declared.decode.DecodedImapb.TheVariants.{Value, Special, ReservedSpecial, OutOfRange}
use Rattle.imapb.specs.Special.{reading}
use Rattle.layout.specs.declared.control.ParseControl.{ParseControl}
use Rattle.layout.specs.Control.{is_set}
use Rattle.layout.specs.declared.header.Head.{Head}
use Rattle.elements.specs.declared.head.Places.{Places}
use Rattle.elements.specs.declared.slot.Slot.{Slot}
use Rattle.layout.specs.Triangle.{slots_of, bit_bytes}
use Rattle.layout.specs.Header.{said_size, control_of, body_at}

-- `size` bytes from `at` on
abbrev pub part : List ℕ → ℕ → ℕ → List ℕ
part bytes at size = take size (drop at bytes)

-- ---- element 3: bit k of a vector that starts at `at`, the high bit of each byte first
abbrev pub vector_bit : List ℕ → ℕ → ℕ → Bool
vector_bit bytes at k = is_set (get_or bytes (at + k / 8) 0 / 2 ^ (7 - k % 8))

-- how many of the first k bits are set
abbrev pub ones_before : List ℕ → ℕ → ℕ → ℕ
ones_before bytes at zero = 0
ones_before bytes at (suc k) = ones_before bytes at k + pick (vector_bit bytes at k) 1 0

-- Clen=0: no slot is present, even with CS=1; CS=0 and Clen>0: all are
abbrev pub present_in : List ℕ → ℕ → ParseControl → ℕ → Bool
present_in bytes at c k = pick (eqb c.clen 0) false (pick c.cs (vector_bit bytes at k) true)

-- how many slots before k are present: the set bits among them are counted
abbrev pub present_before : List ℕ → ℕ → ParseControl → ℕ → ℕ
present_before bytes at c k = pick (eqb c.clen 0) 0 (pick c.cs (ones_before bytes at k) k)

-- ---- where the elements of a pack start, by what its first two say: N, the control, and the byte after that
abbrev pub head_of : List ℕ → Head
head_of bytes = record { n = said_size bytes; control = control_of bytes; body = body_at bytes }

module _ (h : Head) where
  -- element 3: ceil(M/8) bytes if CS=1
  abbrev pub vector_length : ℕ
  vector_length = pick h.control.cs (bit_bytes (slots_of h.n)) 0

  -- element 4: N deviations, or none for Slen=0
  abbrev pub deviations_at : ℕ
  deviations_at = h.body + vector_length

  abbrev pub deviation_count : ℕ
  deviation_count = pick (eqb h.control.slen 0) 0 h.n

  -- element 5: a code for each present slot
  abbrev pub codes_at : ℕ
  codes_at = deviations_at + h.n * h.control.slen

  abbrev pub places_of : Places
  places_of = record { head = h; deviations = deviations_at; codes = codes_at }

module _ (bytes : List ℕ) (h : Head) where
  abbrev pub present_count : ℕ
  present_count = present_before bytes h.body h.control (slots_of h.n)

  abbrev pub end_at : ℕ
  end_at = codes_at h + present_count * h.control.clen

-- ---- the numbers
-- IEEE: binary32 for 4 bytes, binary64 for 8
abbrev pub is_ieee : ℕ → Bool
is_ieee size = eqb size 4 || eqb size 8

abbrev pub ieee : ℕ → List ℕ → ℕ
ieee size raw = pick (eqb size 4) (converted binary32 binary64 (word_of raw)) (word_of raw)

-- every code that is no value reads 0.0
abbrev pub value_bits : DecodedImapb → ℕ
value_bits (Value x) = to_bits binary64 x
value_bits (Special s) = 0
value_bits (ReservedSpecial y) = 0
value_bits (OutOfRange x) = 0

-- what the slot of such a code was: 1 a value, 2 a special, 3 a reserved pattern, 4 out of range
abbrev pub state_of : DecodedImapb → ℕ
state_of (Value x) = 1
state_of (Special s) = 2
state_of (ReservedSpecial y) = 3
state_of (OutOfRange x) = 4

-- ---- the slots: each by the bits of its number and its state
abbrev pub slot : ℕ → ℕ → Slot
slot b s = record { bits = b; state = s }

-- an absent slot reads 0.0, and its state is 0
abbrev pub absent : Slot
absent = slot 0 0

abbrev pub decoded_slot : DecodedImapb → Slot
decoded_slot d = slot (value_bits d) (state_of d)

-- in mapped form what the code reads as; an IEEE number, whatever it is, is a value
abbrev pub code_slot : ParseControl → List ℕ → Slot
code_slot c raw = pick c.cf (decoded_slot (reading c.clen (word_of raw))) (slot (ieee c.clen raw) 1)

-- slot k of a pack whose vector and codes start at `at` and `codes`
abbrev pub slot_in : List ℕ → ℕ → ℕ → ParseControl → ℕ → Slot
slot_in bytes at codes c k =
    pick (present_in bytes at c k)
    (code_slot c (part bytes (codes + present_before bytes at c k * c.clen) c.clen))
    absent

-- deviation i of those that start at `at`
abbrev pub deviation_in : List ℕ → ℕ → ParseControl → ℕ → ℕ
deviation_in bytes at c i = ieee c.slen (part bytes (at + i * c.slen) c.slen)

module _ (bytes : List ℕ) (h : Head) where
  abbrev pub deviations : List ℕ
  deviations = tab (deviation_count h) (deviation_in bytes (deviations_at h) h.control)

  abbrev pub correlations : List ℕ
  correlations = tab (slots_of h.n) (λ k. (slot_in bytes h.body (codes_at h) h.control k).bits)

  abbrev pub states : List ℕ
  states = tab (slots_of h.n) (λ k. (slot_in bytes h.body (codes_at h) h.control k).state)
