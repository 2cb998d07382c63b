-- A row and a file, stored part by part.
-- Assumes nothing.
use mathlib.Core.Path.{◌≡◌, sym, ◌∙◌}
use mathlib.Core.List.{List, ◌++◌}
use Prim.Native.Nat.{ℕ, ◌+◌, ◌*◌, ◌≤◌, ◌<◌}
use native.Mathlib.Omega.{arith}
use lib.ListN.{length, get_or}
use lib.Seq.{sets}
use Rattle.answers.specs.Lent.{over}
use Rattle.answers.proofs.Stored.{sets_more, sets_over}
use Rattle.numbers.specs.Words.{low_bytes_of}
use Rattle.layout.specs.Size.{max_rows}
use Rattle.npy_header.specs.Header.{header_length, header}
use Rattle.npy_export.specs.File.{file_length, row_bytes, body_of, file_of}
use Rattle.npy_export.specs.Parts.{left_bytes, right_bytes}
use Rattle.npy_header.proofs.Headers.{length-header}
use Rattle.npy_export.proofs.Body.{length-left, length-file, row-parts}

three : (l : List ℕ) (at : ℕ) (x y z : List ℕ)
    → sets (sets (sets l at x) (at + length x) y) (at + length x + length y) z ≡ sets l at (x ++ (y ++ z))
three l at x y z = rw (sets_more, sets_more)

module _ (n : ℕ) (ds cs : List ℕ) where
  -- the three parts, stored one behind the other
  pub row-stored : (i : ℕ) → i < n → (l : List ℕ) (at : ℕ) {x y z : List ℕ} → x ≡ sets l at (left_bytes n cs i)
      → y ≡ sets x (at + 8 * i) (low_bytes_of 8 (get_or ds i 0)) → z ≡ sets y (at + 8 * i + 8) (right_bytes n cs i)
      → z ≡ sets l at (row_bytes n ds cs i)
  row-stored i h l at p q r =
      rw (r, q, p, row-parts n ds cs i h, ← (length-left n cs i)) (three l at (left_bytes n cs i) (low_bytes_of 8 (get_or ds i 0)) (right_bytes n cs i))

  -- the header and the body, stored one behind the other from the front on
  pub file-stored : n ≤ max_rows → (l : List ℕ) → file_length n ≤ length l → {x y : List ℕ} → x ≡ sets l 0 (header n)
      → y ≡ sets x header_length (body_of n ds cs) → y ≡ over (file_of n ds cs) l
  file-stored h l w p q =
      let e : length (header n) ≡ header_length = length-header n (omega arith) in
      let m = rw e at (sets_more l 0 (header n) (body_of n ds cs)) in
      rw (q, p) (sym m ∙ sets_over (file_of n ds cs) l (rw (length-file n ds cs (omega arith)) w))
