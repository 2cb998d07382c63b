-- Document 02, K4: what is told of a pack. The rule that refuses it, its place and its answer; or its elements.
use Rattle.std.specs.Prelude.{ℕ, zero, suc, ◌+◌, ◌*◌, List, eqb, Err, Ok, Result}
use Rattle.answers.specs.Table.{Answer, pick}
use Rattle.answers.specs.Listed.{listed}
use Rattle.layout.specs.declared.rule.Rule.{Rule}
use Rattle.layout.specs.declared.rule.Rule.TheVariants.{A, B, C, D, E, F, G, H, I, J, K}
use Rattle.layout.specs.Ruled.{Ruled, passed, refused_by}
use Rattle.layout.specs.Header.{control_at, body_at}
use Rattle.layout.specs.declared.header.Head.{Head}
use Rattle.elements.specs.Elements.{head_of, deviations_at, deviation_count, codes_at, present_count, end_at}
use Rattle.elements.specs.Formats.{deviation_format, code_format}
use Rattle.rules.specs.Named.{pack_ruled}
use Rattle.rules.specs.Rules.{in_turn}
use Rattle.explain.specs.declared.explain.Accepted.{Accepted}
use Rattle.explain.specs.declared.explain.Rejected.{Rejected}
use Rattle.explain.specs.declared.spans.Elements.{Elements}
use Rattle.explain.specs.Spans.{elements_of}

-- the start of the first of n elements, each in turn, that is refused
abbrev pub refused_at : List ℕ → ℕ → ℕ → (ℕ → Answer) → ℕ → ℕ
refused_at bytes at size format zero = at
refused_at bytes at size format (suc n) =
    pick (eqb (in_turn bytes at size format n).number 0) (at + n * size) (refused_at bytes at size format n)

-- a, d: 0; b, c: the first control byte; e to g: the byte after the control; h, j: that value's start; i: the first
-- code; k: the first byte left over
module _ (bytes : List ℕ) where
  abbrev h : Head
  h = head_of bytes

  abbrev pub place_of : Rule → ℕ
  place_of A = 0
  place_of B = control_at bytes
  place_of C = control_at bytes
  place_of D = 0
  place_of E = body_at bytes
  place_of F = body_at bytes
  place_of G = body_at bytes
  place_of H =
      refused_at bytes (deviations_at h) h.control.slen (λ _. deviation_format h.control) (deviation_count h)
  place_of I = codes_at h
  place_of J = refused_at bytes (codes_at h) h.control.clen (λ _. code_format h.control) (present_count bytes h)
  place_of K = end_at bytes h

-- ---- what is told
pub data Explanation : Type 0 where
  accepted : Head → Elements → Explanation
  refused : Rule → ℕ → Answer → Explanation

abbrev pub explained_listed : Result Accepted Rejected → Explanation
explained_listed (Ok a) = accepted a.head a.elements
explained_listed (Err r) = refused r.rule r.place (listed r.refusal)

-- by the first rule that refuses
abbrev pub explained_by : List ℕ → Ruled → Explanation
explained_by bytes passed = accepted (head_of bytes) (elements_of bytes)
explained_by bytes (refused_by x a) = refused x (place_of bytes x) a

unfoldable pub explained : List ℕ → Explanation
explained bytes = explained_by bytes (pack_ruled bytes)
