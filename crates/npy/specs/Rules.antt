-- Document 02, K8: what import refuses, in its order, and what it answers otherwise.
use Rattle.std.specs.Prelude.{ℕ, ◌+◌, ◌-◌, List, [], ◌∷◌, eqb, length}
use Rattle.answers.specs.Table.{Answer, answer, wholes, pick, passes, next, each}
use Rattle.layout.specs.Size.{limit_rule}
use Rattle.layout.specs.Triangle.{slots_of}
use Rattle.rules.specs.Rules.{rooms_rule}
use Rattle.npy_header.specs.Header.{header_length, size_in}
use Rattle.npy_header.specs.Rules.{header_rule}
use Rattle.npy_export.specs.File.{body_length}
use Rattle.npy_export.specs.Rules.{count_rule}
use Rattle.npy.specs.Matrix.{entry_in}

-- two entries that differ in any bit: 12 with i, j
abbrev pub pair_rule : List ℕ → ℕ → ℕ → ℕ → Answer
pair_rule file n i j =
    pick (eqb (entry_in file n i j) (entry_in file n j i)) passes (answer 12 (wholes (i ∷ j ∷ [])))

-- the pairs of row i, and of all rows
abbrev pub row_rules : List ℕ → ℕ → ℕ → Answer
row_rules file n i = each (n - 1 - i) (λ k. pair_rule file n i (i + 1 + k))

unfoldable pub pair_rules : List ℕ → ℕ → Answer
pair_rules file n = each n (row_rules file n)

-- behind the header: N above the limit: 3; then the body's length, which is to be 8·N·N
abbrev pub size_rules : List ℕ → ℕ → Answer
size_rules file n = next (limit_rule n) (count_rule (body_length n) (length file - header_length))

-- the file's own rules, and then the rooms for deviations, correlations and states
abbrev pub file_rules : List ℕ → Answer
file_rules file = next (header_rule file) (next (size_rules file (size_in file)) (pair_rules file (size_in file)))

abbrev pub import_rules : List ℕ → ℕ → ℕ → ℕ → Answer
import_rules file d c s = next (file_rules file) (rooms_rule (size_in file) (slots_of (size_in file)) d c s)

-- done carries N, the deviation count and M
abbrev pub import_answer : List ℕ → ℕ → ℕ → ℕ → Answer
import_answer file d c s =
    next (import_rules file d c s) (answer 0 (wholes (size_in file ∷ size_in file ∷ slots_of (size_in file) ∷ [])))
