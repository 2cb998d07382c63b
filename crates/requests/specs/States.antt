-- The states that a request gives, as bytes.
use Rattle.std.specs.Prelude.{ℕ, ◌%◌, min, List, length, get_or}
use Rattle.answers.specs.Lent.{tab}

-- as many as there are words, and room for them
abbrev pub state_count : List ℕ → List ℕ → ℕ
state_count words lent = min (length words) (length lent)

-- of a word the low byte counts
abbrev pub state_at : List ℕ → ℕ → ℕ
state_at words k = get_or words k 0 % 256

abbrev pub states_of : List ℕ → List ℕ → List ℕ
states_of words lent = tab (state_count words lent) (λ k. state_at words k)
