-- The fields of a request, each read from a place of its line on.
use Rattle.std.specs.Prelude.{ℕ, Option, Some, ◌+◌, ◌-◌, ◌*◌, ◌/◌, ◌^◌, Bool, ◌&&◌, ◌||◌, List, ◌++◌, eqb, leb, length, take, drop}
use Rattle.answers.specs.Lent.{over}
use Rattle.answers.specs.Table.{pick}
use Rattle.layout.specs.Size.{max_rows, max_slots}
use Rattle.text.specs.declared.numeral.Entry.TheVariants.{Bits, UpTo}
use Rattle.text.specs.declared.numeral.Numeral.{Numeral}
use Rattle.text.specs.Numeral.{numeral, hex_at, decimal_up_to, end_at, literal_at}
use Rattle.text.specs.Entries.{list_at, listed_at}
use Rattle.text.specs.Strings.{string_at, bytes_at}
use Rattle.requests.specs.declared.fields.Part.{Part}

-- ---- how much a request may be lent
abbrev pub bytes_lent : ℕ
bytes_lent = 600000

-- far more than any file has
abbrev pub file_lent : ℕ
file_lent = 4000000

-- an item of a set has two bytes at least
abbrev pub tags_lent : ℕ
tags_lent = bytes_lent / 2

abbrev pub rows_lent : ℕ
rows_lent = 4 * max_rows

abbrev pub slots_lent : ℕ
slots_lent = max_slots + 1152

abbrev pub words_lent : ℕ
words_lent = rows_lent + slots_lent + slots_lent

-- ---- a number
-- the most that it may be: `D`, `E`, `F`, `G`, `L` and `R` are rooms
unfoldable pub most : ℕ → ℕ
most letter =
    pick (eqb letter 0x44) rows_lent
    (pick (eqb letter 0x45 || eqb letter 0x46) slots_lent
    (pick (eqb letter 0x47) tags_lent
    (pick (eqb letter 0x4c) file_lent (pick (eqb letter 0x52) bytes_lent (2 ^ 64 - 1)))))

-- `W` is a binary32, `X` and `Y` binary64, any capital up to `V` in decimal; a dot is the line's end, a comma nothing
unfoldable pub number_at : ℕ → List ℕ → ℕ → Option Numeral
number_at letter line at =
    pick (eqb letter 0x57) (hex_at line at 8)
    (pick (eqb letter 0x58 || eqb letter 0x59) (hex_at line at 16)
    (pick (leb 0x41 letter && leb letter 0x56) (decimal_up_to (most letter) line at)
    (pick (eqb letter 0x2e) (end_at line at)
    (pick (eqb letter 0x2c) (Some (numeral 0 at)) (literal_at letter line at)))))

-- ---- a list: where it goes in the words, and how its entries are spelled
-- the deviations, `S`, go first, the correlations, `C`, behind them, and the states, `T`, in decimal, last
unfoldable pub part_of : ℕ → Part
part_of letter =
    pick (eqb letter 0x53) (record { start = 0; end = rows_lent; entry = Bits })
    (pick (eqb letter 0x43) (record { start = rows_lent; end = rows_lent + slots_lent; entry = Bits })
    (record { start = rows_lent + slots_lent; end = words_lent; entry = UpTo 255 }))

-- the words of a part
abbrev pub room_of : Part → List ℕ → List ℕ
room_of part words = take (part.end - part.start) (drop part.start words)

abbrev pub list_in : Part → List ℕ → ℕ → List ℕ → Option Numeral
list_in part line at words = list_at part.entry (length (room_of part words)) line at

-- the words with the list in its part
abbrev pub words_in : Part → List ℕ → ℕ → List ℕ → List ℕ
words_in part line at words =
    let room : List ℕ = room_of part words in
    take part.start words ++ (over (listed_at part.entry (length room) line at) room ++ drop part.end words)

unfoldable pub list_of : ℕ → List ℕ → ℕ → List ℕ → Option Numeral
list_of letter line at words = list_in (part_of letter) line at words

unfoldable pub words_of : ℕ → List ℕ → ℕ → List ℕ → List ℕ
words_of letter line at words = words_in (part_of letter) line at words

-- ---- a field: `H` is a byte string, `C`, `S` and `T` are lists
abbrev pub is_string : ℕ → Bool
is_string letter = eqb letter 0x48

abbrev pub is_list : ℕ → Bool
is_list letter = eqb letter 0x43 || (eqb letter 0x53 || eqb letter 0x54)

unfoldable pub field_at : ℕ → List ℕ → ℕ → List ℕ → Option Numeral
field_at letter line at words =
    pick (is_string letter) (string_at line at)
    (pick (is_list letter) (list_of letter line at words) (number_at letter line at))

-- what it leaves in the line, and in the words
unfoldable pub line_after_field : ℕ → List ℕ → ℕ → List ℕ
line_after_field letter line at = pick (is_string letter) (over (bytes_at line at) line) line

unfoldable pub words_after_field : ℕ → List ℕ → ℕ → List ℕ → List ℕ
words_after_field letter line at words = pick (is_list letter) (words_of letter line at words) words
