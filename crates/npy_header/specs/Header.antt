-- Document 02, K8: the header of a .npy file of version 1.0, and where a file breaks it.
use Rattle.std.specs.Prelude.{ℕ, zero, suc, ◌+◌, ◌-◌, ◌*◌, List, [], ◌∷◌, ◌++◌, eqb, length}
use Rattle.answers.specs.Table.{pick}
use Rattle.answers.specs.Lent.{tab}
use Rattle.text.specs.Text.{ascii, newline, named}
use Rattle.text.specs.Numeral.{digit_at, in_decimal, with_digit}

-- the body starts behind so many bytes
abbrev pub header_length : ℕ
header_length = 128

-- the magic string, the version, and how many bytes of header follow, 118, low byte first
abbrev pub magic : List ℕ
magic = 0x93 ∷ (ascii "NUMPY" ++ (1 ∷ 0 ∷ 118 ∷ 0 ∷ []))

-- all that stands before the first N
abbrev pub front : List ℕ
front = magic ++ ascii "{'descr': '<f8', 'fortran_order': False, 'shape': ("

-- N twice, in decimal
abbrev pub described : ℕ → List ℕ
described n = named front n ++ named (ascii ", ") n ++ ascii "), }"

-- spaces from a place on, and the newline that ends it
abbrev pub padding : ℕ → List ℕ
padding at = tab (header_length - 1 - at) (λ _. 0x20) ++ newline

unfoldable pub header : ℕ → List ℕ
header n = described n ++ padding (length (described n))

-- the most that nine digits spell
abbrev pub max_size : ℕ
max_size = 999999999

-- ---- which header a file is held to
-- the number that its digits spell from a place on: one digit where that is 0, otherwise at most so many
abbrev pub number_from : ℕ → ℕ → List ℕ → ℕ → ℕ
number_from zero n file at = n
number_from (suc left) n file at =
    with_digit (in_decimal (digit_at file at))
    (λ digit. pick (eqb (n * 10 + digit) 0) 0 (number_from left (n * 10 + digit) file (at + 1)))
    n

-- the N of a file, by the first number of its header
unfoldable pub size_in : List ℕ → ℕ
size_in file = number_from 9 0 file (length front)

-- ---- the first byte of a file that differs from a header's or is missing; the header's length where none is
abbrev pub break_of : List ℕ → List ℕ → ℕ
break_of [] file = 0
break_of (h ∷ hs) [] = 0
break_of (h ∷ hs) (b ∷ bs) = pick (eqb h b) (suc (break_of hs bs)) 0

unfoldable pub break_in : List ℕ → ℕ
break_in file = break_of (header (size_in file)) file
