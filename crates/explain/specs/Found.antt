-- How the code finds a place: what it counts on, and the first value that is refused, by the refusal alone.
use Rattle.std.specs.Prelude.{ℕ, ◌-◌, ◌≡◌, List, eqb, get_or}
use Rattle.answers.specs.Table.{Answer, pick, plains}
use Rattle.layout.specs.Header.{header_of, rule_a}

-- N can be read: rule a) passes
abbrev pub Sized : List ℕ → Type 0
Sized bytes = (rule_a (header_of bytes)).number ≡ 0

-- one that is short reaches to the end, and any other that is refused is the first of all
abbrev pub stopped_at : ℕ → ℕ → Answer → ℕ
stopped_at end start a = pick (eqb a.number 1) (end - get_or (plains a.carries) 1 0) start
