-- Byte strings as a line spells them: two hex digits to a byte, and `-` where there is none.
use Rattle.std.specs.Prelude.{ℕ, Option, Some, zero, suc, ◌+◌, ◌*◌, ◌%◌, List, [], ◌∷◌, eqb, length}
use Rattle.answers.specs.Table.{pick}
use Rattle.text.specs.declared.numeral.Numeral.{Numeral}
use Rattle.text.specs.Numeral.{numeral, whether, literal_at, hex_at}

-- the bytes that are left of at most so many, up to the first that is no pair of digits
abbrev pub bytes_from : ℕ → List ℕ → ℕ → List ℕ
bytes_from zero line at = []
bytes_from (suc left) line at = whether (hex_at line at 2) (λ value next. value % 256 ∷ bytes_from left line next) []

-- a line spells no more bytes than it has
abbrev pub bytes_at : List ℕ → ℕ → List ℕ
bytes_at line at = bytes_from (length line) line at

-- so many bytes, up to a place: where they are read, the value is how many there are
abbrev pub spelled_to : ℕ → List ℕ → ℕ → Option Numeral
spelled_to count line next = pick (eqb count 0) (literal_at 0x2d line next) (Some (numeral count next))

abbrev pub string_at : List ℕ → ℕ → Option Numeral
string_at line at = spelled_to (length (bytes_at line at)) line (at + 2 * length (bytes_at line at))
