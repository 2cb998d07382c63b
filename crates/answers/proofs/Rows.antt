-- A refusal's row lists as the refusal does, and holds three values.
-- Assumes nothing.
use mathlib.Core.Path.{◌≡◌}
use Rattle.answers.specs.declared.Refusal.{Refusal}
use Rattle.answers.specs.Listed.{listed}
use Rattle.answers.specs.Row.{row_of, listed_row}
use Rattle.answers.proofs.OneToOne.{of-each}

pub row-lists : (r : Refusal) → listed_row (row_of r) ≡ listed r
row-lists = of-each (λ r. listed_row (row_of r)) listed (search depth 8) (search depth 8)
