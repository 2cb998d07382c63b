-- BER lengths: a byte below 128 is the length; any other says, above 128, how many bytes of length follow, high first.
use Rattle.std.specs.Prelude.{ℕ, suc, ◌%◌, ◌≤◌, ◌≡◌, ◌&&◌, ◌||◌, List, [], ◌∷◌, leb, ltb, eqb, length, get_or, take, Option, Some, None}
use Rattle.answers.specs.Table.{pick}
use Rattle.numbers.specs.declared.ber.BerLength.{BerLength}
use Rattle.numbers.specs.Words.{word_of}

-- a length, and how many bytes it took
abbrev pub ber : ℕ → ℕ → Option BerLength
ber value taken = Some (record { value = value; taken = taken })

-- one to eight bytes of length in long form; the value, and how many bytes it took
unfoldable pub ber_read : List ℕ → Option BerLength
ber_read [] = None
ber_read (b ∷ bs) =
    let k = b % 128 in
    pick (ltb b 128) (ber b 1)
    (pick (leb 1 k && leb k 8 && leb k (length bs)) (ber (word_of (take k bs)) (suc k)) None)

-- in long form, which takes more than one byte: no value that the short form holds, and no leading 0
abbrev pub strictly : List ℕ → Option BerLength → Option BerLength
strictly bytes (Some l) = pick (ltb 1 l.taken && (ltb l.value 128 || eqb (get_or bytes 1 0) 0)) None (Some l)
strictly bytes None = None

unfoldable pub ber_read_strict : List ℕ → Option BerLength
ber_read_strict bytes = strictly bytes (ber_read bytes)

-- what is read strictly from these bytes takes no more of them than any others that are read as the same length
abbrev pub Fewest : List ℕ → Type 0
Fewest bytes = (v k j : ℕ) (other : List ℕ) → ber v k ≡ ber_read_strict bytes → ber v j ≡ ber_read other → k ≤ j
