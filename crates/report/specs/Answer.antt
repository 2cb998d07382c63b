-- The reader's answer: its lines, and what it leaves of the rooms that are lent.
use Rattle.std.specs.Prelude.{ℕ, ◌≡◌, List, eqb, length}
use Rattle.answers.specs.Table.{Answer, pick}
use Rattle.layout.specs.Header.{said_size}
use Rattle.elements.specs.Elements.{head_of, deviations, correlations, states}
use Rattle.reader.specs.Read.{left_deviations, left_correlations, left_states}
use Rattle.reader.specs.Rules.{read_answer}
use Rattle.lines.specs.Lines.{refused_line}
use Rattle.report.specs.Lines.{pack_lines}

-- the numbers that were read, or the refusal
abbrev pub answer_lines : List ℕ → Answer → List ℕ
answer_lines bytes a =
    pick (eqb a.number 0)
    (pack_lines (said_size bytes)
    (deviations bytes (head_of bytes)) (correlations bytes (head_of bytes)) (states bytes (head_of bytes)))
    (refused_line a)

-- ---- by the rooms for deviations, correlations and states that the reader is lent
abbrev pub answered : List ℕ → List ℕ → List ℕ → List ℕ → Answer
answered bytes ds cs ss = read_answer bytes (length ds) (length cs) (length ss)

-- the rooms as the reader leaves them
pub record Left (bytes ds cs ss ds' cs' ss' : List ℕ) : Type 0 where
  pub deviations : ds' ≡ left_deviations (answered bytes ds cs ss) bytes ds
  pub correlations : cs' ≡ left_correlations (answered bytes ds cs ss) bytes cs
  pub states : ss' ≡ left_states (answered bytes ds cs ss) bytes ss
