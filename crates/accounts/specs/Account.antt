-- Document 02, K4, as text: what is told of the bytes, one part to a line for people, or joined by `;`.
use Rattle.std.specs.Prelude.{ℕ, ◌+◌, ◌-◌, Bool, List, ◌++◌, length}
use Rattle.answers.specs.Lent.{joined}
use Rattle.layout.specs.Triangle.{slot_of}
use Rattle.layout.specs.declared.header.Head.{Head}
use Rattle.explain.specs.declared.spans.Elements.{Elements}
use Rattle.explain.specs.Slots.{slot_code}
use Rattle.explain.specs.Explained.{Explanation, accepted, refused, explained}
use Rattle.text.specs.Text.{ascii, named}
use Rattle.parts.specs.Parts.{gap, elements_text, slot_text}
use Rattle.reasons.specs.Reason.{reason_text}

-- ---- a pack that is accepted: its length, its elements, its slots
-- row by row: of row i those of j from i+1 to N-1
module _ (lines : Bool) (bytes : List ℕ) (h : Head) where
  abbrev pub row_text : ℕ → List ℕ
  row_text i =
      joined (h.n - 1 - i)
      (λ k. gap lines ++ slot_text lines bytes i (i + 1 + k) (slot_code bytes h (slot_of h.n i (i + 1 + k))))

  abbrev pub slots_text : List ℕ
  slots_text = joined h.n row_text

abbrev pub accepted_text : Bool → List ℕ → Head → Elements → List ℕ
accepted_text lines bytes h e =
    named (ascii "accepted ") (length bytes) ++ elements_text lines e ++ slots_text lines bytes h

-- ---- what is told of the bytes
abbrev pub telling_text : Bool → List ℕ → Explanation → List ℕ
telling_text lines bytes (accepted h e) = accepted_text lines bytes h e
telling_text lines bytes (refused x place a) = reason_text lines bytes x place a

unfoldable pub account_text : Bool → List ℕ → List ℕ
account_text lines bytes = telling_text lines bytes (explained bytes)
