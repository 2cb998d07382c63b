-- What an answer leaves in lent memory.
use Rattle.std.specs.Prelude.{ℕ, zero, suc, List, [], ◌∷◌, ◌++◌, length, drop, eqb}
use Rattle.answers.specs.Table.{Answer, pick}

-- the entries of `front` first, and after them what was there
abbrev pub over : List ℕ → List ℕ → List ℕ
over front lent = front ++ drop (length front) lent

-- done (0) writes only the first entries that it needs; a refusal leaves all as it was
abbrev pub leaves : Answer → List ℕ → List ℕ → List ℕ
leaves a front lent = pick (eqb a.number 0) (over front lent) lent

-- what f gives of 0 to n-1
abbrev pub tab : ℕ → (ℕ → ℕ) → List ℕ
tab zero f = []
tab (suc n) f = tab n f ++ (f n ∷ [])

-- the lists that f gives of 0 to n-1, one behind the other
abbrev pub joined : ℕ → (ℕ → List ℕ) → List ℕ
joined zero f = []
joined (suc n) f = joined n f ++ f n
