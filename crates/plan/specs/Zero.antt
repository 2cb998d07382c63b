-- Which correlations count as 0, and how many there are.
use Rattle.std.specs.Prelude.{ℕ, zero, suc, ◌+◌, ◌%◌, ◌^◌, Bool, List, eqb, get_or}
use Rattle.answers.specs.Table.{pick}

-- a correlation equal to 0, of either sign: no bit of it is set but the sign
abbrev pub is_zero : ℕ → Bool
is_zero c = eqb (c % 2 ^ 63) 0

-- how many of the first k correlations are
abbrev pub zeros_before : List ℕ → ℕ → ℕ
zeros_before cs zero = 0
zeros_before cs (suc k) = zeros_before cs k + pick (is_zero (get_or cs k 0)) 1 0
