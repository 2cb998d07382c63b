-- A reply as text.
use Rattle.std.specs.Prelude.{ℕ, Bool, ◌&&◌, ◌||◌, List, [], ◌∷◌, eqb, leb, ltb}
use Rattle.answers.specs.Table.{pick}
use Rattle.text.specs.Text.{figures, decimal}
use Rattle.text.specs.Forms.{spread}
use Rattle.replies.specs.declared.reply.Reply.{Reply}
use Rattle.replies.specs.Forms.{form_of, is_field}

-- `B` and `X` are the second value, `C` and `Y` the third, `D` and `Z` the fourth, and any other letter the first
unfoldable pub value_of : Reply → ℕ → ℕ
value_of r letter =
    pick (eqb letter 0x42 || eqb letter 0x58) r.b
    (pick (eqb letter 0x43 || eqb letter 0x59) r.c
    (pick (eqb letter 0x44 || eqb letter 0x5a) r.d r.a))

-- in hex `W` has eight digits, `X` to `Z` have 16; any other letter is in decimal
unfoldable pub hex_digits : ℕ → ℕ
hex_digits letter = pick (eqb letter 0x57) 8 (pick (leb 0x58 letter && leb letter 0x5a) 16 0)

abbrev pub value_text : ℕ → ℕ → List ℕ
value_text letter value =
    pick (ltb 0 (hex_digits letter)) (figures 16 (hex_digits letter) value) (decimal value)

-- the value that a capital stands for, or the letter itself
abbrev pub letter_text : ℕ → ℕ → List ℕ
letter_text letter value = pick (is_field letter) (value_text letter value) (letter ∷ [])

abbrev pub text_of : Reply → ℕ → List ℕ
text_of r letter = letter_text letter (value_of r letter)

-- a comma; a dot stands past the end
unfoldable pub is_end : ℕ → Bool
is_end letter = eqb letter 0x2c || eqb letter 0x2e

abbrev pub reply_text : Reply → List ℕ
reply_text r = spread is_end (text_of r) (form_of r.form)
