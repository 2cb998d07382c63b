-- How long the parts are at most.
-- Assumes nothing.
use mathlib.Core.Path.{◌≡◌, refl}
use mathlib.Core.Bool.{Bool, true, false}
use mathlib.Core.List.{List, [], ◌∷◌, ◌++◌}
use Prim.Native.Nat.{ℕ, ◌+◌, ◌-◌, ◌*◌, ◌≤◌}
use native.Mathlib.Omega.{arith}
use lib.ListN.{length, get_or, length-append}
use Rattle.answers.specs.Table.{pick}
use Rattle.answers.proofs.Joined.{length-joined}
use Rattle.explain.specs.declared.spans.Span.{Span}
use Rattle.explain.specs.declared.spans.Elements.{Elements}
use Rattle.std.specs.Prelude.{None, Some}
use Rattle.explain.specs.Slots.{code_of}
use Rattle.text.specs.Text.{ascii, space}
use Rattle.text.proofs.Figures.{length-figures}
use Rattle.lines.specs.Lines.{numbers}
use Rattle.lines.proofs.Fits.{numbers-length}
use Rattle.parts.specs.Parts.{gap, span_text, elements_text, hex_text, present_text, slot_text}

-- ---- the elements
gap_length : (lines : Bool) → length (gap lines) ≡ 1
gap_length true = refl
gap_length false = refl

span-length : (lines : Bool) (name : List ℕ) (s : Span) → length (gap lines ++ span_text name s) ≤ 43 + length name
span-length lines name s =
    rw (length-append (gap lines) (span_text name s), length-append name (numbers (s.start ∷ s.end ∷ [])))
    (omega (arith, gap_length lines, numbers-length (s.start ∷ s.end ∷ [])))

pub elements-length : (lines : Bool) (e : Elements) → length (elements_text lines e) ≤ 244
elements-length lines e =
    let a = gap lines ++ span_text (ascii "n") e.n in
    let b = gap lines ++ span_text (ascii "control") e.control in
    let c = gap lines ++ span_text (ascii "vector") e.vector in
    let d = gap lines ++ span_text (ascii "deviations") e.deviations in
    let f = gap lines ++ span_text (ascii "codes") e.codes in
    omega (
      arith,
      length-append (a ++ b ++ c ++ d) f,
      length-append (a ++ b ++ c) d,
      length-append (a ++ b) c,
      length-append a b,
      span-length lines (ascii "n") e.n,
      span-length lines (ascii "control") e.control,
      span-length lines (ascii "vector") e.vector,
      span-length lines (ascii "deviations") e.deviations,
      span-length lines (ascii "codes") e.codes,
    )

-- ---- the slots
hex-length : (bytes : List ℕ) (s : Span) → length (hex_text bytes s) ≡ (s.end - s.start) * 2
hex-length bytes s = length-joined _ 2 (λ k. length-figures 16 2 (get_or bytes (s.start + k) 0)) (s.end - s.start)

either-length : (lines : Bool) (x : List ℕ) → length (pick lines x []) ≤ length x
either-length true x = omega arith
either-length false x = omega arith

present-length : (lines : Bool) (bytes : List ℕ) (s : Span) → length (present_text lines bytes s) ≤ 43 + 2 * (s.end - s.start)
present-length lines bytes s =
    rw (length-append (numbers (s.start ∷ s.end ∷ [])) (pick lines (space ++ hex_text bytes s) []))
    (omega (arith, numbers-length (s.start ∷ s.end ∷ []), either-length lines (space ++ hex_text bytes s), hex-length bytes s))

module _ (lines : Bool) (bytes : List ℕ) (i j : ℕ) where
  pub absent-length : length (gap lines ++ slot_text lines bytes i j None) ≤ 75
  absent-length =
      omega (
        arith,
        gap_length lines,
        length-append (gap lines) (slot_text lines bytes i j None),
        length-append (ascii "slot" ++ numbers (i ∷ j ∷ 0 ∷ [])) (ascii " absent"),
        numbers-length (i ∷ j ∷ 0 ∷ []),
      )

  pub at_length : (s : Span) (x : ℕ) → length (gap lines ++ slot_text lines bytes i j (Some (code_of s x))) ≤ 111 + 2 * (s.end - s.start)
  at_length s x =
      omega (
        arith,
        gap_length lines,
        length-append (gap lines) (slot_text lines bytes i j (Some (code_of s x))),
        length-append (ascii "slot" ++ numbers (i ∷ j ∷ x ∷ [])) (present_text lines bytes s),
        numbers-length (i ∷ j ∷ x ∷ []),
        present-length lines bytes s,
      )
