-- The body of a file: how long it is, what each entry is, and a row in its parts.
-- Assumes nothing.
use mathlib.Core.Path.{◌≡◌, refl, ap, ap₂, ◌∙◌}
use mathlib.Core.List.{List, ◌++◌}
use Prim.Native.Nat.{ℕ, min, max, ◌+◌, ◌-◌, ◌*◌, ◌≤◌, ◌<◌}
use native.Mathlib.Nat.{mul_comm, mul_assoc, mul-le-mul}
use native.Mathlib.Omega.{arith}
use borrow.Author.Tests.{eq-eqb, ne_eqb}
use lib.ListN.{length, get_or, length-append}
use Rattle.answers.proofs.Joined.{length-joined, joined-around, joined_same}
use Rattle.numbers.specs.Words.{low_bytes_of}
use Rattle.numbers.proofs.Low.{length-low}
use Rattle.layout.specs.Size.{max_rows}
use Rattle.layout.specs.Triangle.{slots_of, slot_of}
use Rattle.layout.proofs.RowByRow.{row_next, row_within}
use Rattle.npy_header.specs.Header.{max_size}
use Rattle.npy_export.specs.File.{body_length, file_length, entry_of, entry_bytes, row_bytes, body_of, file_of}
use Rattle.npy_export.specs.Parts.{slot_bytes, left_bytes, right_bytes}
use Rattle.npy_header.proofs.Headers.{length-header}

-- ---- lengths
-- within the limit no length and no place comes near the largest number of 64 bits
pub few-entries : (n i : ℕ) → n ≤ max_rows → i ≤ n → i * n ≤ max_rows * max_rows
few-entries n i h k = mul-le-mul {n₁ = i} {m₁ = n} {n₂ = max_rows} {m₂ = max_rows} (omega arith) h

module _ (n : ℕ) (cs : List ℕ) (i : ℕ) where
  pub length-left : length (left_bytes n cs i) ≡ 8 * i
  length-left = length-joined (λ j. slot_bytes cs (slot_of n j i)) 8 (λ j. length-low 8 (get_or cs (slot_of n j i) 0)) i ∙ mul_comm i 8

  pub length-right : length (right_bytes n cs i) ≡ 8 * (n - 1 - i)
  length-right =
      let m = n - 1 - i in
      length-joined (λ k. slot_bytes cs (slot_of n i (i + 1 + k))) 8 (λ k. length-low 8 (get_or cs (slot_of n i (i + 1 + k)) 0)) m ∙ mul_comm m 8

module _ (n : ℕ) (ds cs : List ℕ) where
  pub length-row : (i : ℕ) → length (row_bytes n ds cs i) ≡ 8 * n
  length-row i = length-joined (entry_bytes n ds cs i) 8 (λ j. length-low 8 (entry_of n ds cs i j)) n ∙ mul_comm n 8

  pub length-body : length (body_of n ds cs) ≡ body_length n
  unfolding body_of
  length-body = length-joined (row_bytes n ds cs) (8 * n) length-row n ∙ mul_comm n (8 * n) ∙ mul_assoc 8 n n

  pub length-file : n ≤ max_size → length (file_of n ds cs) ≡ file_length n
  length-file h = rw (length-append, length-header n h, length-body)

  -- ---- the entries of row i, before the diagonal, on it and behind it
  pub entry-left : (i j : ℕ) → j < i → entry_of n ds cs i j ≡ get_or cs (slot_of n j i) 0
  entry-left i j h =
      let p : min i j ≡ j = omega arith in
      let q : max i j ≡ i = omega arith in
      rw (ne_eqb i j (λ e. omega arith), p, q)

  pub entry-diagonal : (i : ℕ) → entry_of n ds cs i i ≡ get_or ds i 0
  entry-diagonal i = rw (eq-eqb i i refl)

  pub entry-right : (i j : ℕ) → i < j → entry_of n ds cs i j ≡ get_or cs (slot_of n i j) 0
  entry-right i j h =
      let p : min i j ≡ i = omega arith in
      let q : max i j ≡ j = omega arith in
      rw (ne_eqb i j (λ e. omega arith), p, q)

  pub row-parts : (i : ℕ) → i < n → row_bytes n ds cs i ≡ left_bytes n cs i ++ (low_bytes_of 8 (get_or ds i 0) ++ right_bytes n cs i)
  row-parts i h =
      let p = joined_same i (λ j l. ap (low_bytes_of 8) (entry-left i j l)) in
      let q = joined_same (n - 1 - i) (λ k l. ap (low_bytes_of 8) (entry-right i (i + 1 + k) (omega arith))) in
      joined-around (entry_bytes n ds cs i) i n h ∙ ap₂ ◌++◌ p (ap₂ ◌++◌ (ap (low_bytes_of 8) (entry-diagonal i)) q)

-- a row's own slots are some of all
pub row_ends : (n i first : ℕ) (cs : List ℕ) → i < n → slots_of n ≤ length cs → first ≡ slot_of n i (i + 1) → first + (n - 1 - i) ≤ length cs
row_ends n i first cs h k e = omega (arith, row_next n i h, row_within n (i + 1) (omega arith))
