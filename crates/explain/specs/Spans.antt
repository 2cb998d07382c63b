-- Where the five elements of a pack start and end.
use Rattle.std.specs.Prelude.{ℕ, List}
use Rattle.layout.specs.Header.{control_at, body_at}
use Rattle.elements.specs.Elements.{head_of, deviations_at, codes_at, end_at}
use Rattle.explain.specs.declared.spans.Span.{Span}
use Rattle.explain.specs.declared.spans.Elements.{Elements}

abbrev pub span : ℕ → ℕ → Span
span start end = record { start = start; end = end }

-- N, Parse Control, the Bit Vector (empty where CS=0), the deviations, the codes
abbrev pub elements_of : List ℕ → Elements
elements_of bytes =
    record {
      n = span 0 (control_at bytes);
      control = span (control_at bytes) (body_at bytes);
      vector = span (body_at bytes) (deviations_at (head_of bytes));
      deviations = span (deviations_at (head_of bytes)) (codes_at (head_of bytes));
      codes = span (codes_at (head_of bytes)) (end_at bytes (head_of bytes));
    }
