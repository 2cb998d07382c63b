-- Document 02, K8: what the programs that make a .npy file of a pack, and a pack of a .npy file, write for which input.
use Rattle.std.specs.Prelude.{ℕ, List, length, None, Some, Option}
use Rattle.answers.specs.Table.{Answer, pick, next}
use Rattle.layout.specs.Header.{said_size}
use Rattle.elements.specs.Elements.{head_of, deviations, correlations}
use Rattle.reader.specs.Rules.{read_answer}
use Rattle.writer.specs.Pack.{pack_bytes}
use Rattle.writer.specs.Rules.{default_clen, write_answer}
use Rattle.npy_header.specs.Header.{size_in}
use Rattle.npy_export.specs.File.{file_of}
use Rattle.npy.specs.Matrix.{deviations_in, correlations_in}
use Rattle.npy_export.specs.Rules.{export_answer}
use Rattle.npy.specs.Rules.{import_answer}
use Rattle.report.specs.Lines.{too_big_line}
use Rattle.packs.specs.Printed.{is_too_big, max_rows, max_slots}
use Rattle.convert.specs.Stream.{Stream, errors, made}

-- what is made of an input, unless that is longer than is read
abbrev pub unless_too_big : List ℕ → Stream → Stream
unless_too_big input s = pick (is_too_big input) (errors too_big_line) s

-- ---- the .npy file of a pack: its numbers as they are read, 0.0 where a slot is no value
module _ (bytes : List ℕ) where
  -- the reader's answer, with room for so many, where it refuses, and otherwise export's, by its own room
  abbrev pub npy_answer : ℕ → Answer
  npy_answer room =
      next (read_answer bytes max_rows max_slots max_slots)
      (export_answer (said_size bytes) (length (deviations bytes (head_of bytes)))
      (length (correlations bytes (head_of bytes))) room)

  abbrev pub npy_of : List ℕ
  npy_of = file_of (said_size bytes) (deviations bytes (head_of bytes)) (correlations bytes (head_of bytes))

  abbrev pub npy_stream : ℕ → Stream
  npy_stream room = unless_too_big bytes (made (npy_answer room) npy_of)

-- ---- the pack of a .npy file, with a Clen
abbrev pub clen_of : Option ℕ → ℕ
clen_of None = default_clen
clen_of (Some L) = L

module _ (file : List ℕ) (L : ℕ) where
  -- import's answer, with room for so many, where it refuses, and otherwise the writer's
  abbrev pub pack_answer : ℕ → Answer
  pack_answer room =
      next (import_answer file max_rows max_slots max_slots)
      (write_answer (deviations_in file (size_in file)) (correlations_in file (size_in file)) L room)

  abbrev pub pack_of : List ℕ
  pack_of = pack_bytes (deviations_in file (size_in file)) (correlations_in file (size_in file)) L

  abbrev pub pack_stream : ℕ → Stream
  pack_stream room = unless_too_big file (made (pack_answer room) pack_of)
