-- What a program writes: all of it to standard output, or all of it to standard error.
use Rattle.std.specs.Prelude.{ℕ, min, ◌≡◌, List, eqb, length}
use Rattle.std.proofs.lemmas.List.Edits.{sets}
use Rattle.answers.specs.Table.{Answer, pick}
use Rattle.lines.specs.Lines.{refused_line}
use Rattle.convert.specs.declared.stream.Streamed.{Streamed}
use Rattle.convert.specs.declared.stream.Streamed.TheVariants.{Output, Errors}

pub data Stream : Type 0 where
  output : List ℕ → Stream
  errors : List ℕ → Stream

-- by an answer: what was made, or the refusal
abbrev pub made : Answer → List ℕ → Stream
made a bytes = pick (eqb a.number 0) (output bytes) (errors (refused_line a))

-- ---- put into lent memory
abbrev pub bytes_of : Stream → List ℕ
bytes_of (output bytes) = bytes
bytes_of (errors text) = text

-- in so much room
abbrev pub streamed : Stream → ℕ → Streamed
streamed (output bytes) room = Output (min (length bytes) room)
streamed (errors text) room = Errors (min (length text) room)

-- the bytes from the front of l on, as far as l goes, leave l'
pub record Streams (s : Stream) (l : List ℕ) (r : Streamed) (l' : List ℕ) : Type 0 where
  pub told : r ≡ streamed s (length l)
  pub stored : l' ≡ sets l 0 (bytes_of s)
