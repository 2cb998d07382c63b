-- What import leaves of lent lists, by its answer: the file's numbers over their front, or all as it was.
use Rattle.std.specs.Prelude.{ℕ, List}
use Rattle.answers.specs.Table.{Answer}
use Rattle.answers.specs.Lent.{leaves}
use Rattle.npy_header.specs.Header.{size_in}
use Rattle.npy.specs.Matrix.{deviations_in, correlations_in, states_in}

module _ (a : Answer) (file lent : List ℕ) where
  abbrev pub left_deviations : List ℕ
  left_deviations = leaves a (deviations_in file (size_in file)) lent

  abbrev pub left_correlations : List ℕ
  left_correlations = leaves a (correlations_in file (size_in file)) lent

  abbrev pub left_states : List ℕ
  left_states = leaves a (states_in file (size_in file)) lent
