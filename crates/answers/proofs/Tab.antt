-- A loop that stores what f gives of 0 to n-1: before its first turn, after one, after a run of them, and at its end.
-- Assumes nothing.
use mathlib.Core.Path.{◌≡◌, sym, ◌∙◌}
use mathlib.Core.List.{List}
use Prim.Native.Nat.{ℕ, zero, suc, ◌+◌, ◌≤◌, ◌<◌}
use native.Mathlib.Nat.{add-zero}
use native.Mathlib.Omega.{arith}
use lib.ListN.{length, set}
use lib.Seq.{sets}
use Rattle.answers.specs.Lent.{over, tab}
use Rattle.answers.proofs.Lent.{length-tab, get_or-tab, Front, front-none, front-more, front-done}
use Rattle.answers.proofs.Stored.{sets_more}

module _ (n : ℕ) (f : ℕ → ℕ) {l₀ : List ℕ} where
  pub tab-none : n ≤ length l₀ → Front (tab n f) l₀ 0 l₀
  tab-none h = front-none (rw (length-tab n f) h)

  module _ {i : ℕ} {l : List ℕ} (p : Front (tab n f) l₀ i l) where
    pub tab-room : i < n → i < length l
    tab-room h = omega (arith, p.room, p.long, length-tab n f)

    pub tab-more : {x : ℕ} → i < n → x ≡ f i → Front (tab n f) l₀ (i + 1) (set l i x)
    tab-more h e = front-more p (rw (length-tab n f) h) (e ∙ sym (get_or-tab n f i h))

    pub tab-done : n ≤ i → l ≡ over (tab n f) l₀
    tab-done h = front-done p (omega (arith, p.within, length-tab n f))

  -- a run of m entries more
  pub tab-run : {i : ℕ} {l : List ℕ} → Front (tab n f) l₀ i l → (m : ℕ) {g : ℕ → ℕ} → i + m ≤ n → ((j : ℕ) → j < m → g j ≡ f (i + j))
      → Front (tab n f) l₀ (i + m) (sets l i (tab m g))
  tab-run p zero h e = rw add-zero p
  tab-run {i} {l} p (suc m) {g} h e =
      let q : i + suc m ≡ i + m + 1 = omega arith in
      rw (q, sets_more, length-tab m g) (tab-more (tab-run p m (omega arith) (λ j k. e j (omega arith))) (omega arith) (e m (omega arith)))
