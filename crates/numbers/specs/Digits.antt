-- Numbers as lists of digits, the highest first: one pair of definitions for BER-OID (base 128) and for bytes (base
-- 256).
use Rattle.std.specs.Prelude.{ℕ, zero, suc, ◌+◌, ◌*◌, ◌/◌, ◌%◌, ◌<◌, List, [], ◌∷◌, ◌++◌, get_or}

-- the number that the digits spell after n; of each entry only what lies below the base counts
abbrev pub spelt : ℕ → ℕ → List ℕ → ℕ
spelt base n [] = n
spelt base n (d ∷ ds) = spelt base (n * base + d % base) ds

-- the k lowest digits of n, each with `mark` times the base added
abbrev pub digits : ℕ → ℕ → ℕ → ℕ → List ℕ
digits base mark zero n = []
digits base mark (suc k) n = digits base mark k (n / base) ++ ((mark * base + n % base) ∷ [])

-- each entry is below the base
abbrev pub Below : ℕ → List ℕ → Type 0
Below base l = (i : ℕ) → get_or l i 0 < base
