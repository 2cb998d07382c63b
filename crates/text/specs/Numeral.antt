-- Numbers as a line spells them: what is left of the line, behind what was read.
use Rattle.std.specs.Prelude.{ℕ, zero, suc, ◌+◌, ◌-◌, ◌*◌, ◌%◌, ◌^◌, List, [], ◌∷◌, eqb, ltb, leb, get_or, drop, length}
use Rattle.std.specs.Prelude.{Option, None, Some}
use Rattle.answers.specs.Table.{pick}
use Rattle.text.specs.declared.numeral.Entry.{Entry}
use Rattle.text.specs.declared.numeral.Entry.TheVariants.{Bits, UpTo}
use Rattle.text.specs.declared.numeral.Numeral.{Numeral}

-- what a byte is worth as an upper-case hex digit: `0` to `9`, `A` to `F`
unfoldable pub worth : ℕ → Option ℕ
worth byte =
    pick (ltb byte 0x30) None
    (pick (leb byte 0x39) (Some (byte - 0x30)) (pick (ltb byte 0x41) None (pick (leb byte 0x46) (Some (byte - 0x37)) None)))

-- past the end stands 0, which is no digit
abbrev pub digit_at : List ℕ → ℕ → Option ℕ
digit_at line at = worth (get_or line at 0)

-- a digit that is one in decimal too
abbrev pub in_decimal : Option ℕ → Option ℕ
in_decimal (Some digit) = pick (ltb digit 10) (Some digit) None
in_decimal None = None

-- by whether there is a digit
abbrev pub with_digit : {A : Type 0} → Option ℕ → (ℕ → A) → A → A
with_digit (Some digit) f none = f digit
with_digit None f none = none

-- a number that is read, and where the line goes on
abbrev pub numeral : ℕ → ℕ → Numeral
numeral value next = record { value = value; next = next }

-- ---- decimal: a value of 64 bits
abbrev pub most : ℕ
most = 2 ^ 64 - 1

abbrev pub fitting : ℕ → ℕ → Option Numeral
fitting value next = pick (leb value most) (Some (numeral value next)) None

-- the digits that are left, behind the value so far
abbrev pub decimal_from : ℕ → ℕ → List ℕ → Option Numeral
decimal_from value next [] = fitting value next
decimal_from value next (b ∷ bs) =
    with_digit (in_decimal (worth b)) (λ digit. decimal_from (value * 10 + digit) (next + 1) bs) (fitting value next)

-- at least one digit
abbrev pub decimal_at : List ℕ → ℕ → Option Numeral
decimal_at line at = with_digit (in_decimal (digit_at line at)) (λ _. decimal_from 0 at (drop at line)) None

-- ---- hex: so many digits; the last sixteen are the value
abbrev pub hex_from : ℕ → ℕ → ℕ → List ℕ → Option Numeral
hex_from zero value next bs = Some (numeral value next)
hex_from (suc k) value next [] = None
hex_from (suc k) value next (b ∷ bs) =
    with_digit (worth b) (λ digit. hex_from k (value % 2 ^ 60 * 16 + digit) (next + 1) bs) None

abbrev pub hex_at : List ℕ → ℕ → ℕ → Option Numeral
hex_at line at digits = hex_from digits 0 at (drop at line)

-- ---- what stands between numbers, and numbers with more to say
-- by whether a number is read
abbrev pub whether : {A : Type 0} → Option Numeral → (ℕ → ℕ → A) → A → A
whether (Some number) f none = f number.value number.next
whether None f none = none

-- what comes behind a number that is read
abbrev pub then : Option Numeral → (ℕ → ℕ → Option Numeral) → Option Numeral
then number f = whether number f None

-- past a byte, with the value 0
abbrev pub literal_at : ℕ → List ℕ → ℕ → Option Numeral
literal_at byte line at =
    pick (ltb at (length line)) (pick (eqb (get_or line at 0) byte) (Some (numeral 0 (at + 1))) None) None

-- the line's end, with the value 0
abbrev pub end_at : List ℕ → ℕ → Option Numeral
end_at line at = pick (eqb at (length line)) (Some (numeral 0 at)) None

abbrev pub decimal_up_to : ℕ → List ℕ → ℕ → Option Numeral
decimal_up_to limit line at =
    then (decimal_at line at) (λ value next. pick (leb value limit) (Some (numeral value next)) None)

-- an entry of a list: the bits of a binary64, or a decimal number up to a limit
abbrev pub entry_at : Entry → List ℕ → ℕ → Option Numeral
entry_at Bits line at = hex_at line at 16
entry_at (UpTo limit) line at = decimal_up_to limit line at

-- behind a space
abbrev pub spaced_at : Entry → List ℕ → ℕ → Option Numeral
spaced_at entry line at = then (literal_at 0x20 line at) (λ _ next. entry_at entry line next)
