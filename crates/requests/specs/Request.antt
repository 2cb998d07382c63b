-- The request that a line is: its form, and what its fields say.
use Rattle.std.specs.Prelude.{ℕ, zero, suc, ◌+◌, ◌||◌, List, eqb}
use Rattle.answers.specs.Table.{pick}
use Rattle.text.specs.Numeral.{whether}
use Rattle.replies.specs.Forms.{letter_of}
use Rattle.replies.specs.Places.{bad_request}
use Rattle.requests.specs.declared.request.Request.{Request}
use Rattle.requests.specs.Form.{form_of}
use Rattle.requests.specs.Fields.{field_at, line_after_field, words_after_field}

abbrev pub unfilled : ℕ → Request
unfilled form =
    record { form = form; size = 0; value = 0; second = 0; given = 0; room = 0; rows = 0; slots = 0; states = 0 }

-- `N` says the size, `I`, `P`, `W` and `X` the value, `Y` the second, `H` and `J` what is given, `G`, `L` and `R` the
-- room, `D` and `S` the rows, `C` and `E` the slots, `F` and `T` the states; any other letter says nothing
unfoldable pub with : ℕ → ℕ → Request → Request
with letter value r =
    record {
      form = r.form;
      size = pick (eqb letter 0x4e) value r.size;
      value = pick ((eqb letter 0x49 || eqb letter 0x50) || (eqb letter 0x57 || eqb letter 0x58)) value r.value;
      second = pick (eqb letter 0x59) value r.second;
      given = pick (eqb letter 0x48 || eqb letter 0x4a) value r.given;
      room = pick (eqb letter 0x47 || (eqb letter 0x4c || eqb letter 0x52)) value r.room;
      rows = pick (eqb letter 0x44 || eqb letter 0x53) value r.rows;
      slots = pick (eqb letter 0x43 || eqb letter 0x45) value r.slots;
      states = pick (eqb letter 0x46 || eqb letter 0x54) value r.states;
    }

-- a request, and what reading it leaves in the line and in the words
pub record Asked : Type 0 where
  pub request : Request
  pub line : List ℕ
  pub words : List ℕ

abbrev pub asked : Request → List ℕ → List ℕ → Asked
asked r line words = record { request = r; line = line; words = words }

-- the letters of a form that are left of its 24, each read where the one before it ended; one that can't be read makes
-- a bad request
abbrev pub asked_from : ℕ → ℕ → ℕ → Request → List ℕ → ℕ → List ℕ → Asked
asked_from zero form i r line at words = asked r line words
asked_from (suc left) form i r line at words =
    let letter : ℕ = letter_of form i in
    let line' : List ℕ = line_after_field letter line at in
    let words' : List ℕ = words_after_field letter line at words in
    whether (field_at letter line at words)
    (λ value next. asked_from left form (i + 1) (with letter value r) line' next words')
    (asked (unfilled bad_request) line' words')

unfoldable pub asked_by : List ℕ → List ℕ → Asked
asked_by line words = asked_from 24 (form_of line) 0 (unfilled (form_of line)) line 0 words

abbrev pub request_of : List ℕ → List ℕ → Request
request_of line words = (asked_by line words).request

abbrev pub line_left : List ℕ → List ℕ → List ℕ
line_left line words = (asked_by line words).line

abbrev pub words_left : List ℕ → List ℕ → List ℕ
words_left line words = (asked_by line words).words
