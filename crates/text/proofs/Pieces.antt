-- Laws of text that is put piece by piece.
-- Assumes nothing.
use mathlib.Core.Path.{◌≡◌, refl, ap, ◌∙◌}
use mathlib.Core.List.{List, [], ◌∷◌, ◌++◌}
use mathlib.Core.Logic.{⊎_elim}
use Prim.Native.Nat.{ℕ, suc, ◌+◌, ◌≤◌, ◌<◌, min}
use native.Mathlib.Nat.{add-zero}
use native.Mathlib.Omega.{arith}
use lib.ListN.{length, length-append}
use lib.Seq.{sets, length-sets, set_out}
use Rattle.answers.proofs.Stored.{sets_more}
use Rattle.text.specs.Put.{Put}
use Rattle.text.proofs.Order.{lt-or-le}

-- past the end nothing is stored
sets-out : (l : List ℕ) (i : ℕ) (x : List ℕ) → length l ≤ i → sets l i x ≡ l
sets-out l i [] h = refl
sets-out l i (a ∷ x) h = rw (set_out l i a h) (sets-out l (suc i) x (omega arith))

-- so the place may as well be the end
pub sets-min : (l : List ℕ) (i : ℕ) (x : List ℕ) → sets l (min i (length l)) x ≡ sets l i x
sets-min l i x =
    ⊎_elim (λ (h : i < length l). let e : min i (length l) ≡ i = omega arith in rw e)
    (λ (h : length l ≤ i).
    let e : min i (length l) ≡ length l = omega arith in
    rw (e, sets-out l i x h) (sets-out l (length l) x (omega arith)))
    (lt-or-le i (length l))

-- nothing
pub put-none : (at : ℕ) (l : List ℕ) → Put [] at l (min at (length l)) l
put-none at l = record { behind = rw add-zero; stored = refl }

module _ {x : List ℕ} {at : ℕ} {l : List ℕ} {r : ℕ} {m : List ℕ} (p : Put x at l r m) where
  pub put-long : length m ≡ length l
  put-long = ap length p.stored ∙ length-sets l at x

  -- one text behind the other
  pub put_then : {y : List ℕ} {s : ℕ} {n : List ℕ} → Put y r m s n → Put (x ++ y) at l s n
  put_then {y} q =
      record {
        behind = rw length-append (omega (arith, p.behind, q.behind, put-long));
        stored = q.stored ∙ rw (p.behind, ← put-long, sets-min, p.stored, sets_more);
      }

  -- where there is room, the text is put whole
  pub put_whole : at + length x ≤ length l → r ≡ at + length x
  put_whole h = omega (arith, p.behind)
