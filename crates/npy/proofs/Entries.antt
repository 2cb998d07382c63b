-- The entries of a file that was made of a matrix, and of one that a matrix is read from.
-- Assumes nothing.
use mathlib.Core.Path.{◌≡◌, sym, ap, ◌∙◌}
use mathlib.Core.List.{List, ◌++◌, append_assoc}
use Prim.Native.Nat.{ℕ, zero, suc, min, max, ◌+◌, ◌-◌, ◌*◌, ◌^◌, ◌≤◌, ◌<◌}
use native.Mathlib.Nat.{mul_assoc, add-mul, zero-mul, mod-eq_of_lt}
use native.Mathlib.Omega.{arith}
use lib.Dec.{eqb}
use lib.ListN.{length, take, drop, get_or, length-append, get_or-append}
use lib.Seq.{take_at, drop_at, take-add, drop-drop, get_or-append-add}
use Rattle.answers.specs.Lent.{joined}
use Rattle.answers.proofs.Rules.{picked}
use Rattle.answers.proofs.Joined.{length-joined, joined-around}
use Rattle.answers.proofs.Lent.{length-tab, get_or-tab}
use Rattle.numbers.specs.Words.{low_word_of}
use Rattle.numbers.specs.Digits.{Below}
use Rattle.numbers.proofs.Low.{length-low, low-word-of-bytes}
use Rattle.layout.specs.Triangle.{slot_of, IsPair}
use Rattle.layout.proofs.RowByRow.{row-along}
use Rattle.elements.specs.Elements.{part}
use Rattle.npy_header.specs.Header.{header, max_size}
use Rattle.npy_export.specs.File.{entry_of, entry_bytes, row_bytes, body_of, file_of}
use Rattle.npy.specs.Matrix.{place_of, entry_in, row_in, correlations_in}
use Rattle.npy_header.proofs.Headers.{length-header}
use Rattle.npy.proofs.Matrix.{length-rows}

-- the parts of a list, one behind the other
pub joined-parts : (l : List ℕ) (at size k : ℕ) → joined k (λ j. part l (at + j * size) size) ≡ take (k * size) (drop at l)
joined-parts l at size zero = rw zero-mul
joined-parts l at size (suc k) =
    let e : suc k * size ≡ k * size + size = omega (arith, add-mul k 1 size) in
    rw (e, take-add, drop-drop, joined-parts l at size k)

-- ---- of a file that was made of a matrix
module _ (n : ℕ) (ds cs : List ℕ) (h : n ≤ max_size) where
  length-entries : (i k : ℕ) → length (joined k (entry_bytes n ds cs i)) ≡ k * 8
  length-entries i = length-joined (entry_bytes n ds cs i) 8 (λ j. length-low 8 (entry_of n ds cs i j))

  pub entry-part : (i j : ℕ) → i < n → j < n → part (file_of n ds cs) (place_of n i j) 8 ≡ entry_bytes n ds cs i j
  unfolding body_of
  entry-part i j hi hj =
      let r = joined-around (row_bytes n ds cs) i n hi in
      let e = joined-around (entry_bytes n ds cs i) j n hj in
      let rows = joined (n - 1 - i) (λ k. row_bytes n ds cs (i + 1 + k)) in
      let rest = joined (n - 1 - j) (λ k. entry_bytes n ds cs i (j + 1 + k)) ++ rows in
      let front = header n ++ joined i (row_bytes n ds cs) ++ joined j (entry_bytes n ds cs i) in
      let here = entry_bytes n ds cs i j in
      let long : length front ≡ place_of n i j =
      rw (length-append, length-append, length-header n h, length-entries i j, length-joined (row_bytes n ds cs) (n * 8) (λ k. length-entries k n) i)
      (omega (arith, mul_assoc i n 8)) in
      let is : file_of n ds cs ≡ front ++ (here ++ rest) = rw (r, e, append_assoc, append_assoc, append_assoc, append_assoc) in
      ap (λ (l : List ℕ). part l (place_of n i j) 8) is
      ∙ rw (drop_at front (here ++ rest) (place_of n i j) long) (take_at here rest 8 (length-low 8 (entry_of n ds cs i j)))

  pub entry-back : Below (2 ^ 64) ds → Below (2 ^ 64) cs → (i j : ℕ) → i < n → j < n → entry_in (file_of n ds cs) n i j ≡ entry_of n ds cs i j
  entry-back b c i j hi hj =
      ap low_word_of (entry-part i j hi hj) ∙ low-word-of-bytes 8 (entry_of n ds cs i j) (omega arith)
      ∙ mod-eq_of_lt (picked (λ (x : ℕ). x < 2 ^ 64) (eqb i j) (get_or ds i 0) (get_or cs (slot_of n (min i j) (max i j)) 0) (λ _. b i) (λ _. c (slot_of n (min i j) (max i j))))

-- ---- of a file that a matrix is read from
module _ (file : List ℕ) (n : ℕ) where
  -- slot (i,j) holds entry (i,j)
  pub slot-in : (i j : ℕ) → IsPair n i j → get_or (correlations_in file n) (slot_of n i j) 0 ≡ entry_in file n i j
  unfolding correlations_in
  slot-in i j p =
      let s = joined-around (row_in file n) i n (omega arith) in
      let rest = joined (n - 1 - i) (λ k. row_in file n (i + 1 + k)) in
      let k = j - i - 1 in
      let q : i + 1 + k ≡ j = omega arith in
      let at : slot_of n i j ≡ length (joined i (row_in file n)) + k =
      rw q at (row-along n i k (omega arith)) ∙ ap (λ (x : ℕ). x + k) (sym (length-rows file n i (omega arith))) in
      let long : k < length (row_in file n i) = rw (length-tab (n - 1 - i) (λ k. entry_in file n i (i + 1 + k))) (omega arith) in
      rw (s, at, get_or-append-add) (get_or-append (row_in file n i) rest 0 k long
      ∙ get_or-tab (n - 1 - i) (λ k. entry_in file n i (i + 1 + k)) k (omega arith) ∙ ap (λ (x : ℕ). entry_in file n i x) q)
