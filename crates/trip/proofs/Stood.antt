-- What a done answer leaves at the front of lent memory.
-- Assumes nothing.
use mathlib.Core.Path.{◌≡◌, ap, ◌∙◌}
use mathlib.Core.List.{List}
use Prim.Native.Nat.{ℕ, ◌≤◌, ◌<◌}
use native.Mathlib.Omega.{arith}
use lib.ListN.{length, take, drop, get_or, length-append, get_or-append}
use lib.Seq.{take_at}
use Rattle.answers.specs.Table.{Answer}
use Rattle.answers.specs.Lent.{over, leaves, tab}
use Rattle.answers.proofs.Lent.{length-tab, get_or-tab}

pub done-front : (a : Answer) (front lent : List ℕ) (n : ℕ) → a.number ≡ 0 → length front ≡ n → take n (leaves a front lent) ≡ front
done-front a front lent n z e = rw z (take_at front (drop (length front) lent) n e)

-- ---- a list over the front of what was lent
module _ (n : ℕ) (f : ℕ → ℕ) (front lent : List ℕ) (e : front ≡ tab n f) where
  -- its length
  pub long-front : length front ≡ n
  long-front = rw e (length-tab n f)

  -- there is room for it
  pub over-long : n ≤ length (over front lent)
  over-long = rw length-append (omega (arith, long-front))

  -- an entry of it
  pub over-at : (k : ℕ) → k < n → get_or (over front lent) k 0 ≡ f k
  over-at k h =
      get_or-append front (drop (length front) lent) 0 k (rw long-front h) ∙ ap (λ (l : List ℕ). get_or l k 0) e ∙ get_or-tab n f k h
