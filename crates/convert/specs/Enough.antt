-- The programs' own rooms are enough for any input.
use Rattle.std.specs.Prelude.{ℕ, ◌+◌, ◌*◌, ◌≤◌, ◌≡◌, List, length}
use Rattle.answers.specs.Table.{Answer}
use Rattle.npy_export.specs.File.{file_length}
use Rattle.packs.specs.Printed.{max_rows, max_slots}
use Rattle.convert.specs.Stream.{Stream, bytes_of}
use Rattle.convert.specs.Converted.{npy_answer, npy_stream, pack_answer, pack_stream}

abbrev pub npy_room : ℕ
npy_room = file_length max_rows

abbrev pub pack_room : ℕ
pack_room = 4 + 4 * max_rows + 8 * max_slots

-- no room is told to be too small, and what is written is whole
pub record Enough (a : Answer) (s : Stream) (room : ℕ) : Type 0 where
  pub never : a.number ≡ 5 → ⊥
  pub whole : length (bytes_of s) ≤ room

pub record RoomEnough : Type 0 where
  pub npy : (bytes : List ℕ) → Enough (npy_answer bytes npy_room) (npy_stream bytes npy_room) npy_room
  pub pack : (file : List ℕ) (L : ℕ) → Enough (pack_answer file L pack_room) (pack_stream file L pack_room) pack_room
