-- What the reader leaves of lent lists, by its answer: the pack's numbers over their front, or all as it was.
use Rattle.std.specs.Prelude.{ℕ, List, Option, None}
use Rattle.answers.specs.Table.{Answer}
use Rattle.answers.specs.Lent.{leaves}
use Rattle.elements.specs.Elements.{head_of, correlations, states}
use Rattle.deviations.specs.declared.form.DeviationRange.{DeviationRange}
use Rattle.deviations.specs.Range.{deviations_over}

abbrev pub left_deviations_in : Option DeviationRange → Answer → List ℕ → List ℕ → List ℕ
left_deviations_in range a bytes lent = leaves a (deviations_over range bytes (head_of bytes)) lent

module _ (a : Answer) (bytes lent : List ℕ) where
  abbrev pub left_deviations : List ℕ
  left_deviations = left_deviations_in None a bytes lent

  abbrev pub left_correlations : List ℕ
  left_correlations = leaves a (correlations bytes (head_of bytes)) lent

  abbrev pub left_states : List ℕ
  left_states = leaves a (states bytes (head_of bytes)) lent
