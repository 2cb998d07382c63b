-- Laws of runs of stores, `sets` of the kit: one behind the other, two that do not meet in either order, one over
-- another, and what is written into a part that is lent.
-- Assumes nothing.
use mathlib.Core.Path.{◌≡◌, refl, sym, ap, ◌∙◌}
use mathlib.Core.List.{List, [], ◌∷◌, ◌++◌, append_assoc}
use Prim.Native.Nat.{ℕ, suc, ◌+◌, ◌-◌, ◌≤◌, ◌<◌}
use native.Mathlib.Nat.{add-zero, zero-add}
use native.Mathlib.Numerals.{add-one}
use native.Mathlib.Omega.{arith}
use lib.ListN.{length, take, drop, get_or, set, length-drop}
use lib.Seq.{sets, sets-eq, set_comm, set-set, get_or-set_other, length-take-le, drop-drop}
use Rattle.answers.specs.Lent.{over, tab}
use Rattle.answers.proofs.Lent.{length-tab}

-- what is stored from the front on
pub sets_over : (front l : List ℕ) → length front ≤ length l → sets l 0 front ≡ over front l
sets_over front l h = rw zero-add at (sets-eq front l 0 (omega arith))

-- what f gives of a part's length, written into a part that is lent
pub sets-part : (f : ℕ → List ℕ) → ((k : ℕ) → length (f k) ≡ k) → (l : List ℕ) (at k : ℕ) {y : List ℕ} → at + k ≤ length l
    → y ≡ f (length (take (at + k - at) (drop at l))) → take at l ++ (y ++ drop (at + k - at) (drop at l)) ≡ sets l at (f k)
sets-part f long l at k h e =
    let p : at + k - at ≡ k = omega arith in
    let q : length (take k (drop at l)) ≡ k = length-take-le k (drop at l) (rw length-drop (omega arith)) in
    rw (e, p, q, drop-drop, ← append_assoc) (sym (rw (long k) at (sets-eq (f k) l at (rw (long k) h))))

-- one run behind the other
pub sets_more : (l : List ℕ) (i : ℕ) (x y : List ℕ) → sets l i (x ++ y) ≡ sets (sets l i x) (i + length x) y
sets_more l i [] y = rw add-zero
sets_more l i (a ∷ x) y =
    let e : i + suc (length x) ≡ suc i + length x = omega arith in
    rw e (sets_more (set l i a) (suc i) x y)

-- one store more behind a run of them
pub sets-tab : (l : List ℕ) (at i : ℕ) (f : ℕ → ℕ) → set (sets l at (tab i f)) (at + i) (f i) ≡ sets l at (tab (i + 1) f)
sets-tab l at i f = rw (add-one, sets_more, length-tab i f)

-- a store before a run
set-swap : (l : List ℕ) (i a j : ℕ) (y : List ℕ) → i < j → sets (set l i a) j y ≡ set (sets l j y) i a
set-swap l i a j [] h = refl
set-swap l i a j (b ∷ y) h = rw (set_comm l i j a b (omega arith)) (set-swap (set l j b) i a (suc j) y (omega arith))

-- two runs that do not meet, in either order
pub sets-swap : (l : List ℕ) (i : ℕ) (x : List ℕ) (j : ℕ) (y : List ℕ) → i + length x ≤ j → sets (sets l i x) j y ≡ sets (sets l j y) i x
sets-swap l i [] j y h = refl
sets-swap l i (a ∷ x) j y h =
    sets-swap (set l i a) (suc i) x j y (omega arith) ∙ ap (λ (m : List ℕ). sets m (suc i) x) (set-swap l i a j y (omega arith))

-- below a run nothing changes
pub sets_below : (l : List ℕ) (i : ℕ) (x : List ℕ) (p : ℕ) → p < i → get_or (sets l i x) p 0 ≡ get_or l p 0
sets_below l i [] p h = refl
sets_below l i (a ∷ x) p h = sets_below (set l i a) (suc i) x p (omega arith) ∙ get_or-set_other l i p a 0 (omega arith)

-- a run over another that is no longer
again : (l : List ℕ) (i : ℕ) (y z : List ℕ) → length y ≤ length z → sets (sets l i y) i z ≡ sets l i z
again l i [] z h = refl
again l i (a ∷ y) [] h = absurd (omega arith)
again l i (a ∷ y) (b ∷ z) h =
    rw (← (set-swap (set l i a) i b (suc i) y (omega arith)), set-set) (again (set l i b) (suc i) y z (omega arith))

-- and behind a third
pub sets-cover : (l : List ℕ) (i : ℕ) (x y z : List ℕ) → length y ≤ length z → sets (sets l i (x ++ y)) (i + length x) z ≡ sets l i (x ++ z)
sets-cover l i x y z h = rw (sets_more, sets_more) (again (sets l i x) (i + length x) y z h)
