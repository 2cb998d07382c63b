-- A value of an enum whose cases carry numbers, as the place of its case and the list of its numbers. One law over
-- all such enums.
-- Assumes nothing.
use mathlib.Core.Path.{◌≡◌, refl, ap, ap₂}
use mathlib.Core.List.{List, [], ◌∷◌}
use mathlib.Core.Logic.{◌⊎◌, inl, inr}
use Prim.Native.Nat.{ℕ, zero, suc}
use native.Mathlib.Omega.{arith}
use lib.ListN.{length}
use denote.Struct.Field.{Field}

-- how many numbers each case carries
abbrev pub counts : List (List Field) → List ℕ
counts [] = []
counts (c ∷ cs) = length c ∷ counts cs

abbrev pub Tuple : ℕ → Type 0
Tuple zero = Unit {0}
Tuple (suc n) = ℕ × Tuple n

abbrev pub Case : List ℕ → Type 0
Case [] = ⊥
Case (n ∷ ns) = Tuple n ⊎ Case ns

abbrev pub place : (ns : List ℕ) → Case ns → ℕ
place [] c = absurd c
place (n ∷ ns) (inl t) = 0
place (n ∷ ns) (inr c) = suc (place ns c)

abbrev numbers : (n : ℕ) → Tuple n → List ℕ
numbers zero t = []
numbers (suc n) t = t.0 ∷ numbers n t.1

abbrev pub values : (ns : List ℕ) → Case ns → List ℕ
values [] c = absurd c
values (n ∷ ns) (inl t) = numbers n t
values (n ∷ ns) (inr c) = values ns c

same-tuple : (n : ℕ) (t u : Tuple n) → numbers n t ≡ numbers n u → t ≡ u
same-tuple zero t u e = refl
same-tuple (suc n) t u e =
    let h : t.0 ≡ u.0 = cc in
    let k : numbers n t.1 ≡ numbers n u.1 = cc in
    ap₂ (λ (x : ℕ) (y : Tuple n). (x, y)) h (same-tuple n t.1 u.1 k)

-- the place and the numbers tell the value
pub same_case : (ns : List ℕ) (c d : Case ns) → place ns c ≡ place ns d → values ns c ≡ values ns d → c ≡ d
same_case [] c d p v = absurd c
same_case (n ∷ ns) (inl t) (inl u) p v = ap inl (same-tuple n t u v)
same_case (n ∷ ns) (inr c) (inr d) p v = ap inr (same_case ns c d (omega arith) v)
same_case (n ∷ ns) (inl t) (inr d) p v = absurd (omega arith)
same_case (n ∷ ns) (inr c) (inl u) p v = absurd (omega arith)

-- what holds of each case in turn holds of all
abbrev pub All : (ns : List ℕ) → (Case ns → Type 0) → Type 0
All [] P = Unit {0}
All (n ∷ ns) P = ((t : Tuple n) → P (inl t)) × All ns (λ c. P (inr c))

pub every : (ns : List ℕ) (P : Case ns → Type 0) → All ns P → (c : Case ns) → P c
every [] P h c = absurd c
every (n ∷ ns) P h (inl t) = h.0 t
every (n ∷ ns) P h (inr c) = every ns (λ c. P (inr c)) h.1 c

-- ---- in two runs, each short enough for a search: the first k cases, and those behind them
abbrev pub First : (k : ℕ) (ns : List ℕ) → (Case ns → Type 0) → Type 0
First zero ns P = Unit {0}
First (suc k) [] P = Unit {0}
First (suc k) (n ∷ ns) P = ((t : Tuple n) → P (inl t)) × First k ns (λ c. P (inr c))

abbrev pub Behind : (k : ℕ) (ns : List ℕ) → (Case ns → Type 0) → Type 0
Behind zero ns P = All ns P
Behind (suc k) [] P = Unit {0}
Behind (suc k) (n ∷ ns) P = Behind k ns (λ c. P (inr c))

pub both : (k : ℕ) (ns : List ℕ) (P : Case ns → Type 0) → First k ns P → Behind k ns P → All ns P
both zero ns P f b = b
both (suc k) [] P f b = f
both (suc k) (n ∷ ns) P f b = (f.0, both k ns (λ c. P (inr c)) f.1 b)
