-- A part of lent memory that is stored over whole: by one number, as `fill` does, or place by place.
-- Assumes nothing.
use mathlib.Core.Path.{◌≡◌, refl, sym, ap, ◌∙◌}
use mathlib.Core.List.{List, [], ◌∷◌, ◌++◌, append-nil}
use Prim.Native.Nat.{ℕ, zero, suc, ◌+◌, ◌-◌, ◌≤◌}
use native.Mathlib.Omega.{arith}
use borrow.Rule.Slice.PartMut.{put_mid}
use lib.ListN.{length, take, drop, replicate, drop_of_length-le}
use lib.Seq.{sets}
use Rattle.answers.specs.Lent.{tab}
use Rattle.answers.proofs.Lent.{length-tab, Front}
use Rattle.answers.proofs.Tab.{tab-done}
use Rattle.answers.proofs.Stored.{sets-part}

tab-front : (x n : ℕ) → tab n (λ _. x) ++ (x ∷ []) ≡ x ∷ tab n (λ _. x)
tab-front x zero = refl
tab-front x (suc n) = ap (λ (l : List ℕ). l ++ (x ∷ [])) (tab-front x n)

replicate-tab : (n x : ℕ) → replicate n x ≡ tab n (λ _. x)
replicate-tab zero x = refl
replicate-tab (suc n) x = ap (λ (l : List ℕ). x ∷ l) (replicate-tab n x) ∙ sym (tab-front x n)

-- what f gives of its places, stored over all of it
pub part-stored : (at k : ℕ) (f : ℕ → ℕ) (l : List ℕ) {m : List ℕ} → at + k ≤ length l → m ≡ tab (length (take k (drop at l))) f
    → put_mid at k l m ≡ sets l at (tab k f)
part-stored at k f l {m = m} h e =
    let p : at + k - at ≡ k = omega arith in rw p at (sets-part (λ n. tab n f) (λ n. length-tab n f) l at k {y = m} h (rw p e))

-- as `fill` does with one number
pub filled : (at k x : ℕ) (l : List ℕ) {m : List ℕ} → at + k ≤ length l → m ≡ replicate (length (take k (drop at l))) x
    → put_mid at k l m ≡ sets l at (tab k (λ _. x))
filled at k x l h e = part-stored at k (λ _. x) l h (e ∙ replicate-tab (length (take k (drop at l))) x)

-- as a loop over all of it does, after i turns
module _ (f : ℕ → ℕ) {l₀ l : List ℕ} {i : ℕ} where
  pub part-done : Front (tab (length l₀) f) l₀ i l → length l₀ ≤ i → l ≡ tab (length l₀) f
  part-done p h =
      tab-done (length l₀) f p h
      ∙ rw (length-tab (length l₀) f, drop_of_length-le l₀ {i = length l₀} (omega arith)) (append-nil (tab (length l₀) f))
