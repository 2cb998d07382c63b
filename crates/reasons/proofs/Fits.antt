-- How long the text of a refusal is at most.
-- Assumes nothing.
use mathlib.Core.Path.{◌≡◌, refl}
use mathlib.Core.Bool.{Bool, true, false}
use mathlib.Core.List.{List, [], ◌∷◌, ◌++◌}
use Prim.Native.Nat.{ℕ, ◌≤◌}
use native.Mathlib.Omega.{arith}
use lib.ListN.{length, length-append}
use Rattle.answers.specs.Table.{Answer, pick}
use Rattle.layout.specs.declared.rule.Rule.{Rule}
use Rattle.layout.specs.Header.{header_of}
use Rattle.text.specs.Text.{ascii, space, newline, decimal, named}
use Rattle.text.proofs.Figures.{longest-decimal}
use Rattle.text.proofs.Forms.{longest, within, room, spread-fits}
use Rattle.lines.specs.Lines.{refused_text}
use Rattle.lines.proofs.Fits.{refused-length}
use Rattle.reasons.specs.declared.sentence.Facts.{Facts}
use Rattle.reasons.specs.Sentences.{sentences, sentence_of, is_end, is_field, value_of, text_of, sentence_text}
use Rattle.reasons.specs.Reason.{letter_of, ruled_text, sentence_for, facts_by, reason_text}

-- a number has 20 digits at most
abbrev most : ℕ → ℕ
most letter = pick (is_field letter) 20 1

either : (b : Bool) (value letter : ℕ) → length (pick b (decimal value) (letter ∷ [])) ≤ pick b 20 1
either true value letter = longest-decimal value
either false value letter = omega arith

short : (f : Facts) (letter : ℕ) → length (text_of f letter) ≤ most letter
short f letter = either (is_field letter) (value_of f letter) letter

longest-is : longest (room most) sentences ≡ 136
unfolding sentences is_field
longest-is = refl

sentence-length : (sentence : ℕ) (f : Facts) → length (sentence_text sentence f) ≤ 136
sentence-length sentence f =
    omega (arith, spread-fits most is_end (text_of f) (short f) (sentence_of sentence), within (room most) refl sentences sentence, longest-is)

-- ---- a refusal: the rule, its place, the refusal, and a sentence
ruled-length : (x : Rule) (place : ℕ) (a : Answer) → length a.carries ≤ 3 → length (ruled_text x place a) ≤ 119
ruled-length x place a h =
    let front = ascii "rule " ++ (letter_of x ∷ []) ++ named space place in
    rw (length-append (front ++ space) (refused_text a), length-append front space)
    (omega (arith, longest-decimal place, refused-length a (record { most = h })))

pub reason-length : (bytes : List ℕ) (x : Rule) (place : ℕ) (a : Answer) → length a.carries ≤ 3 → length (reason_text true bytes x place a) ≤ 256
reason-length bytes x place a h =
    let s = sentence_text (sentence_for x a.number) (facts_by (header_of bytes) a) in
    rw (length-append (ruled_text x place a) (newline ++ s))
    (omega (arith, ruled-length x place a h, sentence-length (sentence_for x a.number) (facts_by (header_of bytes) a)))
