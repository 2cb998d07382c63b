-- The parts of a pack that is accepted, as text: its elements, and for each slot where its code stands or "absent". Each
-- part has a line of its own, and a code its bytes in hex; or parts are joined by `;`, without the bytes.
use Rattle.std.specs.Prelude.{ℕ, ◌+◌, ◌-◌, Bool, List, [], ◌∷◌, ◌++◌, get_or, None, Option, Some}
use Rattle.answers.specs.Table.{pick}
use Rattle.answers.specs.Lent.{joined}
use Rattle.explain.specs.declared.spans.Span.{Span}
use Rattle.explain.specs.declared.spans.Elements.{Elements}
use Rattle.explain.specs.declared.slot.SlotCode.{SlotCode}
use Rattle.text.specs.Text.{ascii, space, newline, figures}
use Rattle.lines.specs.Lines.{numbers}

-- what stands before each part but the first
abbrev pub gap : Bool → List ℕ
gap lines = pick lines newline (ascii ";")

-- ---- the elements: each by its name, where it starts and where it ends
abbrev pub span_text : List ℕ → Span → List ℕ
span_text name s = name ++ numbers (s.start ∷ s.end ∷ [])

abbrev pub elements_text : Bool → Elements → List ℕ
elements_text lines e =
    (gap lines ++ span_text (ascii "n") e.n)
    ++ (gap lines ++ span_text (ascii "control") e.control)
    ++ (gap lines ++ span_text (ascii "vector") e.vector)
    ++ (gap lines ++ span_text (ascii "deviations") e.deviations)
    ++ (gap lines ++ span_text (ascii "codes") e.codes)

-- ---- the slots
-- two hex digits to a byte
abbrev pub hex_text : List ℕ → Span → List ℕ
hex_text bytes s = joined (s.end - s.start) (λ i. figures 16 2 (get_or bytes (s.start + i) 0))

abbrev pub present_text : Bool → List ℕ → Span → List ℕ
present_text lines bytes s =
    numbers (s.start ∷ s.end ∷ []) ++ pick lines (space ++ hex_text bytes s) []

-- i, j, the state, and where the code stands
abbrev pub slot_text : Bool → List ℕ → ℕ → ℕ → Option SlotCode → List ℕ
slot_text lines bytes i j None = ascii "slot" ++ numbers (i ∷ j ∷ 0 ∷ []) ++ ascii " absent"
slot_text lines bytes i j (Some code) =
    ascii "slot" ++ numbers (i ∷ j ∷ code.state ∷ []) ++ present_text lines bytes code.span
