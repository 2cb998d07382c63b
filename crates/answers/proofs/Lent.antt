-- Laws of lent memory: what a refusal leaves, and what a loop that stores from the front has stored.
-- Assumes nothing.
use mathlib.Core.Path.{◌≡◌, refl, ap, ◌∙◌}
use mathlib.Core.Bool.{Bool}
use mathlib.Core.List.{List, [], ◌∷◌, ◌++◌}
use mathlib.Core.Logic.{⊎_elim}
use Prim.Native.Nat.{ℕ, zero, suc, ◌+◌, ◌≤◌, ◌<◌}
use native.Mathlib.Nat.{not-suc-le-zero, le_of_suc-le-suc, eq-or-lt_of_le}
use native.Mathlib.Numerals.{add-one}
use native.Mathlib.Omega.{arith}
use lib.ListN.{length, take, drop, get_or, set, length-append, length-set, get_or-append}
use lib.Seq.{take-suc, drop-cons, set_at, append_snoc, length-take-le, take_all, get_or_at, drop-append_seam}
use Rattle.answers.specs.declared.Refusal.{Refusal}
use Rattle.answers.specs.Table.{pick}
use Rattle.answers.specs.Listed.{listed}
use Rattle.answers.specs.Lent.{over, leaves, tab}
use Rattle.answers.proofs.OneToOne.{refused-not-done}

-- a refusal leaves lent memory as it was
pub refused-leaves : (r : Refusal) (front lent : List ℕ) → leaves (listed r) front lent ≡ lent
refused-leaves r front lent = ap (λ (b : Bool). pick b (over front lent) lent) (refused-not-done r)

-- ---- the list of a function's values
pub length-tab : (n : ℕ) (f : ℕ → ℕ) → length (tab n f) ≡ n
length-tab zero f = refl
length-tab (suc n) f = rw (length-append, length-tab n f) (add-one n)

pub get_or-tab : (n : ℕ) (f : ℕ → ℕ) (k : ℕ) → k < n → get_or (tab n f) k 0 ≡ f k
get_or-tab zero f k h = absurd (not-suc-le-zero h)
get_or-tab (suc n) f k h =
    ⊎_elim (λ (e : k ≡ n). rw e (get_or_at (tab n f) (f n) [] 0 n (length-tab n f)))
    (λ l. let b : k < length (tab n f) = rw (length-tab n f) l in get_or-append (tab n f) (f n ∷ []) 0 k b ∙ get_or-tab n f k l)
    (eq-or-lt_of_le (le_of_suc-le-suc h))

-- lists of equal numbers
pub tab-same : (n : ℕ) {f g : ℕ → ℕ} → ((k : ℕ) → k < n → f k ≡ g k) → tab n f ≡ tab n g
tab-same zero h = refl
tab-same (suc n) h = rw (tab-same n (λ k l. h k (omega arith)), h n (omega arith))

-- ---- a loop that stores the entries of `front` over l₀, after i turns
pub record Front (front l₀ : List ℕ) (i : ℕ) (l : List ℕ) : Type 0 where
  pub within : i ≤ length front
  pub room : length front ≤ length l₀
  pub long : length l ≡ length l₀
  pub is : l ≡ take i front ++ drop i l₀

module _ {front l₀ : List ℕ} where
  pub front-none : length front ≤ length l₀ → Front front l₀ 0 l₀
  front-none h = record { within = omega arith; room = h; long = refl; is = refl }

  -- one entry more is stored
  pub front-more : {i : ℕ} {l : List ℕ} {x : ℕ} → Front front l₀ i l → i < length front → x ≡ get_or front i 0 → Front front l₀ (i + 1) (set l i x)
  front-more {i} {l} {x} p h e =
      let k : i < length l₀ = omega (arith, p.room) in
      record {
        within = omega arith;
        room = p.room;
        long = rw length-set p.long;
        is = rw (p.is, e, add-one, drop-cons l₀ i 0 k, take-suc front i 0 h, append_snoc)
            (set_at (take i front) (get_or l₀ i 0) (drop (suc i) l₀) (get_or front i 0) i (length-take-le i front p.within));
      }

  pub front-done : {i : ℕ} {l : List ℕ} → Front front l₀ i l → i ≡ length front → l ≡ over front l₀
  front-done p e = rw e at p.is ∙ ap (λ (t : List ℕ). t ++ drop (length front) l₀) (take_all (length front) front (omega arith))

-- a front over another of its length
pub over-twice : (front back lent : List ℕ) → length front ≡ length back → over front (over back lent) ≡ over front lent
over-twice front back lent e = rw e (ap (λ (t : List ℕ). front ++ t) (drop-append_seam back (drop (length back) lent)))
