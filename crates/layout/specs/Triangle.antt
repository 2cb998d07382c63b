-- The slots of the upper triangle of an N×N matrix, row by row.
use Rattle.std.specs.Prelude.{ℕ, suc, ◌+◌, ◌-◌, ◌*◌, ◌/◌, ◌<◌, ◌≡◌, ◌&&◌, ltb, None, Some, Option}
use Rattle.answers.specs.Table.{pick}

-- M = N(N-1)/2, and 0 for N=0
unfoldable pub slots_of : ℕ → ℕ
slots_of n = n * (n - 1) / 2

-- the bytes of M bits: ceil(M/8)
abbrev pub bit_bytes : ℕ → ℕ
bit_bytes M = (M + 7) / 8

-- the slot of (i,j), i<j
unfoldable pub slot_of : ℕ → ℕ → ℕ → ℕ
slot_of n i j = i * (2 * n - i - 1) / 2 + (j - i - 1)

abbrev pub triangle_slot : ℕ → ℕ → ℕ → Option ℕ
triangle_slot n i j = pick (ltb i j && ltb j n) (Some (slot_of n i j)) None

-- ---- what makes it the numbering of the pairs i<j below n, row by row
abbrev pub IsPair : ℕ → ℕ → ℕ → Type 0
IsPair n i j = (i < j) × (j < n)

pub record RowByRow (n : ℕ) : Type 0 where
  -- it starts at 0, goes on by one along a row and from a row's end to the next row, and ends below M
  pub first : 1 < n → slot_of n 0 1 ≡ 0
  pub along : (i j : ℕ) → IsPair n i (suc j) → i < j → slot_of n i (suc j) ≡ suc (slot_of n i j)
  pub down : (i : ℕ) → IsPair n (suc i) (suc (suc i)) → slot_of n (suc i) (suc (suc i)) ≡ suc (slot_of n i (n - 1))
  pub below : (i j : ℕ) → IsPair n i j → slot_of n i j < slots_of n
  -- one to one, and onto
  pub one : (i j k l : ℕ) → IsPair n i j → IsPair n k l → slot_of n i j ≡ slot_of n k l → (i ≡ k) × (j ≡ l)
  pub onto : (s : ℕ) → s < slots_of n → (i : ℕ) × (j : ℕ) × IsPair n i j × (slot_of n i j ≡ s)
