-- What the pass that checks and counts with no branch collects.
use Rattle.std.specs.Prelude.{ℕ, zero, suc, ◌+◌, ◌%◌, ◌^◌, List, eqb, get_or}
use Rattle.std.specs.Int.Bits.{bit_or}
use Rattle.answers.specs.Table.{pick}

-- a correlation's bits below the two highest, with those of the least normal number, 2^-1022, added
abbrev pub raise : ℕ → ℕ
raise c = c % 2 ^ 62 + 2 ^ 52

-- the bits that are set in one of the first k correlations, itself or raised
abbrev pub bits_met : List ℕ → ℕ → ℕ
bits_met cs zero = 0
bits_met cs (suc k) = bit_or (bits_met cs k) (bit_or (get_or cs k 0) (raise (get_or cs k 0)))

-- how many of them are raised to no more than that number
abbrev pub least_met : List ℕ → ℕ → ℕ
least_met cs zero = 0
least_met cs (suc k) = least_met cs k + pick (eqb (raise (get_or cs k 0)) (2 ^ 52)) 1 0
