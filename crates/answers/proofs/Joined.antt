-- Laws of lists one behind the other: how long they are together, and where each stands.
-- Assumes nothing.
use mathlib.Core.Path.{◌≡◌, refl, sym, ap₂}
use mathlib.Core.List.{List, [], ◌++◌, append-nil, append_assoc}
use mathlib.Core.Logic.{⊎_elim}
use Prim.Native.Nat.{ℕ, zero, suc, ◌+◌, ◌-◌, ◌*◌, ◌≤◌, ◌<◌}
use native.Mathlib.Nat.{add-zero, add-suc, zero-mul, suc-mul, le_of_suc-le-suc, eq-or-lt_of_le}
use native.Mathlib.Numerals.{add-one}
use native.Mathlib.Omega.{arith}
use lib.ListN.{length, take, drop, length-append}
use lib.Seq.{take_at, drop_at}
use Rattle.answers.specs.Lent.{joined}

-- lists that are equal one by one
pub joined_same : {f g : ℕ → List ℕ} (n : ℕ) → ((k : ℕ) → k < n → f k ≡ g k) → joined n f ≡ joined n g
joined_same zero h = refl
joined_same (suc n) h = ap₂ ◌++◌ (joined_same n (λ k l. h k (omega arith))) (h n (omega arith))

module _ (f : ℕ → List ℕ) where
  pub joined-add : (m n : ℕ) → joined (m + n) f ≡ joined m f ++ joined n (λ j. f (m + j))
  joined-add m zero = rw (add-zero, append-nil)
  joined-add m (suc n) = rw (add-suc, joined-add m n, append_assoc)

  -- the i-th stands between those before it and those behind it
  pub joined-around : (i n : ℕ) → i < n → joined n f ≡ joined i f ++ (f i ++ joined (n - 1 - i) (λ k. f (i + 1 + k)))
  joined-around i n h =
      let e : i + 1 + (n - 1 - i) ≡ n = omega arith in
      let q : joined (i + 1) f ≡ joined i f ++ f i = rw add-one in
      rw (q, append_assoc) at (rw e at (joined-add (i + 1) (n - 1 - i)))

  -- lists of one length
  pub length-joined : (s : ℕ) → ((k : ℕ) → length (f k) ≡ s) → (n : ℕ) → length (joined n f) ≡ n * s
  length-joined s h zero = sym (zero-mul s)
  length-joined s h (suc n) = rw (length-append, length-joined s h n, h n) (omega (arith, suc-mul n s))

  -- lists of at most one length
  pub joined-le : (s n : ℕ) → ((k : ℕ) → k < n → length (f k) ≤ s) → length (joined n f) ≤ n * s
  joined-le s zero h = omega arith
  joined-le s (suc n) h =
      rw length-append (omega (arith, suc-mul n s, h n (omega arith), joined-le s n (λ k l. h k (omega arith))))

  -- more lists are never shorter
  pub joined-grows : (m d : ℕ) → length (joined m f) ≤ length (joined (m + d) f)
  joined-grows m d = rw (joined-add m d, length-append) (omega arith)

  -- lists of nothing add nothing
  pub joined-rest : (m d : ℕ) → ((k : ℕ) → m ≤ k → f k ≡ []) → joined (m + d) f ≡ joined m f
  joined-rest m zero h = rw add-zero
  joined-rest m (suc d) h = rw (add-suc, h (m + d) (omega arith), append-nil) (joined-rest m d h)

  -- the k-th stands behind those before it, whatever follows
  pub joined-part : (n k : ℕ) (rest : List ℕ) → k < n → take (length (f k)) (drop (length (joined k f)) (joined n f ++ rest)) ≡ f k
  joined-part (suc n) k rest h =
      ⊎_elim
      (λ (e : k ≡ n).
      rw (e, append_assoc, drop_at (joined n f) (f n ++ rest) (length (joined n f)) refl) (take_at (f n) rest (length (f n)) refl))
      (λ l. rw append_assoc (joined-part n k (f n ++ rest) l))
      (eq-or-lt_of_le (le_of_suc-le-suc h))
  joined-part zero k rest h = absurd (omega arith)
