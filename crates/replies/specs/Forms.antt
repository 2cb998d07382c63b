-- The forms of the requests and of the replies.
use Rattle.std.specs.Prelude.{ℕ, Bool, ◌&&◌, List, [], ◌∷◌, leb, get_or}
use Rattle.text.specs.Text.{ascii}

-- words stand for themselves, and a capital for a field of the request or a value of the reply, which ends at a comma
unfoldable pub forms : List (List ℕ)
forms =
    ascii "widen W"
    ∷ ascii "narrow X"
    ∷ ascii "oid H"
    ∷ ascii "mapped N H"
    ∷ ascii "peek H"
    ∷ ascii "cell N S C I J"
    ∷ ascii "usable N S C T"
    ∷ ascii "print H"
    ∷ ascii "read D E F H"
    ∷ ascii "map N R X"
    ∷ ascii "write - R S C"
    ∷ ascii "write N R S C"
    ∷ ascii "special user P, N R"
    ∷ ascii "special +inf P, N R"
    ∷ ascii "special +qnan P, N R"
    ∷ ascii "special +snan P, N R"
    ∷ ascii "special -inf P, N R"
    ∷ ascii "special -qnan P, N R"
    ∷ ascii "special -snan P, N R"
    ∷ ascii "special below P, N R"
    ∷ ascii "special above P, N R"
    ∷ ascii "mapped-in X Y N H"
    ∷ ascii "read-in X Y D E F H"
    ∷ ascii "why H"
    ∷ ascii "strict-oid H"
    ∷ ascii "ber H"
    ∷ ascii "strict-ber H"
    ∷ ascii "set G H"
    ∷ ascii "to-npy L N S C"
    ∷ ascii "from-npy D E F H"
    ∷ ascii "bad request"
    ∷ ascii "refused A"
    ∷ ascii "refused A B"
    ∷ ascii "refused A B C"
    ∷ ascii "refused A B C D"
    ∷ ascii "refused A X Y Z"
    ∷ ascii ""
    ∷ ascii "X"
    ∷ ascii "W"
    ∷ ascii "oid A B"
    ∷ ascii "size A"
    ∷ ascii "nothing"
    ∷ ascii "value X"
    ∷ ascii "outside X"
    ∷ ascii "reserved A"
    ∷ ascii "number X"
    ∷ ascii "no"
    ∷ ascii "yes"
    ∷ ascii "done A "
    ∷ ascii "n A deviations B slots C"
    ∷ ascii ";s A X"
    ∷ ascii ";c A B C Z"
    ∷ ascii " touched"
    ∷ ascii "length A B"
    ∷ ascii "set A B"
    ∷ ascii ";pack A B C D"
    ∷ ascii ";tags"
    ∷ ascii " A"
    ∷ ascii " -"
    ∷ []

abbrev pub form_of : ℕ → List ℕ
form_of form = get_or forms form []

-- a dot past the end
abbrev pub letter_of : ℕ → ℕ → ℕ
letter_of form i = get_or (form_of form) i 0x2e

-- a capital: `A` to `Z`
abbrev pub is_field : ℕ → Bool
is_field letter = leb 0x41 letter && leb letter 0x5a
