-- Requests, computed from the definitions.
-- Assumes nothing.
use mathlib.Core.Path.{◌≡◌, refl}
use mathlib.Core.List.{List, [], ◌∷◌}
use Prim.Native.Nat.{ℕ, ◌-◌, ◌^◌}
use lib.ListN.{length, length-take, length-drop}
use Rattle.std.specs.Prelude.{None, Some}
use Rattle.text.specs.Numeral.{numeral, worth}
use Rattle.text.specs.Text.{ascii}
use Rattle.replies.specs.Forms.{forms}
use Rattle.replies.specs.Places.{bad_request}
use Rattle.requests.specs.Fields.{words_lent, most, number_at, part_of, list_of, words_of}
use Rattle.requests.specs.Fields.{field_at, line_after_field, words_after_field}
use Rattle.requests.specs.Request.{unfilled, with, asked_by, request_of, line_left}

-- a byte string, which stands in the front of its line
abbrev mapped : List ℕ
mapped = ascii "mapped 2 80FF"

pub mapped-read : (request_of mapped []
    ≡ record { form = 3; size = 2; value = 0; second = 0; given = 2; room = 0; rows = 0; slots = 0; states = 0 })
    × (line_left mapped [] ≡ 0x80 ∷ 0xff ∷ ascii "pped 2 80FF")
unfolding worth forms most number_at part_of list_of words_of field_at line_after_field words_after_field with asked_by
mapped-read = (refl, refl)

-- two numbers, the rooms and a byte string
pub read-in : request_of (ascii "read-in BFF0000000000000 4000000000000000 1 2 3 A1") []
    ≡ record {
      form = 22;
      size = 0;
      value = 0xbff0000000000000;
      second = 2 ^ 62;
      given = 1;
      room = 0;
      rows = 1;
      slots = 2;
      states = 3;
    }
unfolding worth forms most number_at part_of list_of words_of field_at line_after_field words_after_field with asked_by
read-in = refl

-- the room for tags, and a byte string
pub set-read : request_of (ascii "set 300000 0301E8") []
    ≡ record { form = 27; size = 0; value = 0; second = 0; given = 3; room = 300000; rows = 0; slots = 0; states = 0 }
unfolding worth forms most number_at part_of list_of words_of field_at line_after_field words_after_field with asked_by
set-read = refl

-- the room for a file, an N of any size, and two lists; the rooms for what a file holds, and its bytes
pub to-npy-read : request_of (ascii "to-npy 4000000 18446744073709551615 0 0") []
    ≡ record {
      form = 28;
      size = 2 ^ 64 - 1;
      value = 0;
      second = 0;
      given = 0;
      room = 4000000;
      rows = 0;
      slots = 0;
      states = 0;
    }
unfolding worth forms most number_at part_of list_of words_of field_at line_after_field words_after_field with asked_by
to-npy-read = refl

pub from-npy-read : request_of (ascii "from-npy 1 2 3 934E") []
    ≡ record { form = 29; size = 0; value = 0; second = 0; given = 2; room = 0; rows = 1; slots = 2; states = 3 }
unfolding worth forms most number_at part_of list_of words_of field_at line_after_field words_after_field with asked_by
from-npy-read = refl

-- a word too many, rooms that are larger than there is, no byte string where one is asked for, a list too few, and a
-- number of more than 64 bits
abbrev IsBad : List ℕ → Type 0
IsBad line = request_of line [] ≡ unfilled bad_request

pub refused-requests : IsBad (ascii "peek 01 ") × IsBad (ascii "map 2 600001 3FF0000000000000") × IsBad (ascii "set 300001 -")
    × IsBad (ascii "to-npy 4000001 0 0 0") × IsBad (ascii "peek ") × IsBad (ascii "usable 2 0 0") × IsBad (ascii "to-npy 128 0 0")
    × IsBad (ascii "to-npy 128 18446744073709551616 0 0")
unfolding worth forms most number_at part_of list_of words_of field_at line_after_field words_after_field with asked_by
refused-requests = (refl, refl, refl, refl, refl, refl, refl, refl)

-- three lists, the last of states in decimal
pub usable-read : request_of (ascii "usable 2 0 0 0") []
    ≡ record { form = 6; size = 2; value = 0; second = 0; given = 0; room = 0; rows = 0; slots = 0; states = 0 }
unfolding worth forms most number_at part_of list_of words_of field_at line_after_field words_after_field with asked_by
usable-read = refl

-- where there is room for them: a state is a byte
module _ (words : List ℕ) (h : length words ≡ words_lent) where
  pub states-read : field_at 0x54 (ascii "2 1 255") 0 words ≡ Some (numeral 2 7)
  unfolding worth part_of list_of field_at
  states-read = rw (length-take, length-drop, h)

  pub state-refused : field_at 0x54 (ascii "1 256") 0 words ≡ None
  unfolding worth part_of list_of field_at
  state-refused = rw (length-take, length-drop, h)
