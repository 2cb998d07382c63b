-- One number of a pack, or the refusal that reading it gives.
use Rattle.std.specs.Prelude.{ℕ, ◌-◌, List, [], ◌∷◌, ltb, length, Err, Ok, Result}
use Rattle.answers.specs.Table.{Answer, answer, short, wholes, pick, passes}
use Rattle.answers.specs.Listed.{listed}
use Rattle.answers.specs.Outcome.{Outcome, found, refused, unless}
use Rattle.layout.specs.declared.control.ParseControl.{ParseControl}
use Rattle.elements.specs.Elements.{part, is_ieee, ieee}
use Rattle.elements.specs.Formats.{deviation_format}
use Rattle.answers.specs.declared.Refusal.{Refusal}

abbrev pub number_listed : Result ℕ Refusal → Outcome ℕ
number_listed (Ok b) = found b
number_listed (Err r) = refused (listed r)

-- what an answer refuses
abbrev pub refusal_of : {A : Type 0} → Outcome A → Answer
refusal_of (found a) = passes
refusal_of (refused a) = a

-- fewer than `size` bytes left: 1 with `size` and what is left; then the format's refusal
abbrev pub element_rule : List ℕ → ℕ → ℕ → Answer → Answer
element_rule bytes at size format = pick (ltb (length bytes - at) size) (short size (length bytes - at)) format

-- and then what the element is
abbrev pub element : {A : Type 0} → List ℕ → ℕ → ℕ → Answer → A → Outcome A
element bytes at size format value = unless (element_rule bytes at size format) value

-- an IEEE number of 4 or 8 bytes
abbrev pub ieee_number : List ℕ → ℕ → ℕ → Outcome ℕ
ieee_number bytes at size =
    element bytes at size (pick (is_ieee size) passes (answer 2 (wholes (0 ∷ size ∷ []))))
    (ieee size (part bytes at size))

abbrev pub deviation_number : List ℕ → ℕ → ParseControl → Outcome ℕ
deviation_number bytes at c = element bytes at c.slen (deviation_format c) (ieee c.slen (part bytes at c.slen))
