-- Bytes as text behind a reply.
use Rattle.std.specs.Prelude.{ℕ, List, [], ◌∷◌, eqb, length, get_or}
use Rattle.answers.specs.Table.{pick}
use Rattle.answers.specs.Lent.{joined}
use Rattle.text.specs.Text.{figures}
use Rattle.replies.specs.Places.{done_at}

-- the lines of a text are joined by `;`
abbrev pub of_text : ℕ → ℕ
of_text byte = pick (eqb byte 0x0a) 0x3b byte

-- in hex where the form is that of what is done
abbrev pub byte_text : ℕ → ℕ → List ℕ
byte_text form byte = pick (eqb form done_at) (figures 16 2 byte) (of_text byte ∷ [])

abbrev pub bytes_text : ℕ → List ℕ → List ℕ
bytes_text form bytes = joined (length bytes) (λ i. byte_text form (get_or bytes i 0))
