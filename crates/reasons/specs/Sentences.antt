-- The sentences that say why a pack is refused, and each as text.
use Rattle.std.specs.Prelude.{ℕ, Bool, ◌&&◌, ◌||◌, List, [], ◌∷◌, eqb, leb, get_or}
use Rattle.answers.specs.Table.{pick}
use Rattle.text.specs.Text.{ascii, decimal}
use Rattle.text.specs.Forms.{spread}
use Rattle.reasons.specs.declared.sentence.Facts.{Facts}

-- words stand for themselves, and N, M, S, L, P, Q and R for numbers
unfoldable pub sentences : List (List ℕ)
sentences =
    ascii "The pack does not begin with a matrix size that can be read."
    ∷ ascii "The parse control needs P byte more, and Q are there."
    ∷ ascii "The parse control gives P bytes to a deviation and Q to a correlation."
    ∷ ascii "The matrix is said to have P rows, and Q to R can be read."
    ∷ ascii "The N deviations of S bytes need P bytes, and Q are there."
    ∷ ascii "The M correlations of L bytes need P bytes, and Q are there."
    ∷ ascii "The bit vector of M correlations needs P bytes, and Q are there."
    ∷ ascii "A deviation needs P bytes, and Q are left."
    ∷ ascii "A deviation of Q bytes in this form can't be read: only IEEE numbers of 4 or 8 bytes can."
    ∷ ascii "The correlations that the bit vector marks present need P bytes, and Q are left."
    ∷ ascii "A correlation needs P bytes, and Q are left."
    ∷ ascii "A mapped correlation of P bytes can't be read: only those of 1 to 8 bytes can."
    ∷ ascii "An IEEE correlation of Q bytes can't be read: only those of 4 or 8 bytes can."
    ∷ ascii "The pack ends after P bytes, and Q are there."
    ∷ []

abbrev pub sentence_of : ℕ → List ℕ
sentence_of sentence = get_or sentences sentence []

-- a bar past the end
abbrev pub letter_of : ℕ → ℕ → ℕ
letter_of sentence i = get_or (sentence_of sentence) i 0x7c

abbrev pub is_end : ℕ → Bool
is_end letter = eqb letter 0x7c

-- `L` to `N`, `P` to `S`
unfoldable pub is_field : ℕ → Bool
is_field letter = leb 0x4c letter && leb letter 0x4e || leb 0x50 letter && leb letter 0x53

-- `N` is the rows, `M` the slots, `S` and `L` the lengths of a deviation and of a correlation, `P`, `Q` and `R` the
-- refusal's numbers
unfoldable pub value_of : Facts → ℕ → ℕ
value_of f letter =
    pick (eqb letter 0x4e) f.rows
    (pick (eqb letter 0x4d) f.slots
    (pick (eqb letter 0x53) f.slen
    (pick (eqb letter 0x4c) f.clen
    (pick (eqb letter 0x50) f.first
    (pick (eqb letter 0x51) f.second f.third)))))

-- the number that a field stands for, in decimal, or the letter itself
abbrev pub letter_text : ℕ → ℕ → List ℕ
letter_text letter value = pick (is_field letter) (decimal value) (letter ∷ [])

abbrev pub text_of : Facts → ℕ → List ℕ
text_of f letter = letter_text letter (value_of f letter)

abbrev pub sentence_text : ℕ → Facts → List ℕ
sentence_text sentence f = spread is_end (text_of f) (sentence_of sentence)
