-- The text of a pack that is refused: the rule, its place, the refusal, and one of fourteen sentences.
use Rattle.std.specs.Prelude.{ℕ, Bool, List, [], ◌∷◌, ◌++◌, eqb, get_or, Result, Ok, Err}
use Rattle.answers.specs.Table.{Answer, pick, plains}
use Rattle.layout.specs.declared.header.Head.{Head}
use Rattle.layout.specs.declared.header.HeaderError.{HeaderError}
use Rattle.layout.specs.declared.rule.Rule.{Rule}
use Rattle.layout.specs.declared.rule.Rule.TheVariants.{A, B, C, D, E, F, G, H, I, J, K}
use Rattle.layout.specs.Header.{header_of}
use Rattle.layout.specs.Triangle.{slots_of}
use Rattle.text.specs.Text.{ascii, space, newline, named}
use Rattle.lines.specs.Lines.{refused_text}
use Rattle.reasons.specs.declared.sentence.Facts.{Facts}
use Rattle.reasons.specs.Sentences.{sentence_text}

-- `a` to `k`
abbrev pub letter_of : Rule → ℕ
letter_of A = 0x61
letter_of B = 0x62
letter_of C = 0x63
letter_of D = 0x64
letter_of E = 0x65
letter_of F = 0x66
letter_of G = 0x67
letter_of H = 0x68
letter_of I = 0x69
letter_of J = 0x6a
letter_of K = 0x6b

abbrev pub ruled_text : Rule → ℕ → Answer → List ℕ
ruled_text x place a = ascii "rule " ++ (letter_of x ∷ []) ++ named space place ++ space ++ refused_text a

-- ---- the sentence for a rule and the number of its refusal: h) has two, j) three
abbrev pub sentence_for : Rule → ℕ → ℕ
sentence_for A number = 0
sentence_for B number = 1
sentence_for C number = 2
sentence_for D number = 3
sentence_for E number = 4
sentence_for F number = 5
sentence_for G number = 6
sentence_for H number = pick (eqb number 1) 7 8
sentence_for I number = 9
sentence_for J number = pick (eqb number 1) 10 (pick (eqb number 4) 11 12)
sentence_for K number = 13

-- the numbers that a refusal carries, and what a header says
abbrev pub carried_by : Answer → ℕ → ℕ
carried_by a i = get_or (plains a.carries) i 0

abbrev pub facts : ℕ → ℕ → ℕ → ℕ → Answer → Facts
facts n m s l a =
    record {
      rows = n;
      slots = m;
      slen = s;
      clen = l;
      first = carried_by a 0;
      second = carried_by a 1;
      third = carried_by a 2;
    }

abbrev pub facts_by : Result Head HeaderError → Answer → Facts
facts_by (Ok h) a = facts h.n (slots_of h.n) h.control.slen h.control.clen a
facts_by (Err e) a = facts 0 0 0 0 a

abbrev pub reason_text : Bool → List ℕ → Rule → ℕ → Answer → List ℕ
reason_text lines bytes x place a =
    ruled_text x place a
    ++ pick lines (newline ++ sentence_text (sentence_for x a.number) (facts_by (header_of bytes) a)) []
