-- The codes of a full pack: every slot is sent. The first ones by words, and the last ones, behind them, by themselves.
-- Assumes nothing.
use mathlib.Core.Path.{◌≡◌, refl, sym, ◌∙◌}
use mathlib.Core.Bool.{false}
use mathlib.Core.List.{List}
use Prim.Native.Nat.{ℕ, ◌+◌, ◌-◌, ◌*◌, ◌≤◌, ◌<◌}
use native.Mathlib.Nat.{zero-add, add-mul, mul-le-mul_right}
use native.Mathlib.Omega.{arith}
use lib.ListN.{length, take, drop, get_or, length-drop}
use lib.Seq.{sets, length-take-le}
use lib.Ieee.{binary64, of_bits}
use Rattle.std.proofs.lemmas.List.{get_or-take, get_or-drop}
use Rattle.answers.specs.Lent.{joined}
use Rattle.answers.proofs.Joined.{joined-add, length-joined}
use Rattle.answers.proofs.Runs.{Run, run_none, run_room, run_more}
use Rattle.answers.proofs.Stored.{sets-cover}
use Rattle.numbers.proofs.Bytes.{length-bytes}
use Rattle.imapb.specs.Mapping.{code_of}
use Rattle.plan.specs.Rules.{InRange, Supported}
use Rattle.slots.specs.Slots.{coded, code_bytes, element5}
use Rattle.slots.specs.Fill.{codes_of, spill, words_of}
use Rattle.slots.proofs.Spill.{spill-le, Worded, worded-none, worded-sent}

-- counted from slot 0 on
from_zero : (f : ℕ → List ℕ) (n : ℕ) → joined n (λ j. f (0 + j)) ≡ joined n f
from_zero f n = sym (rw zero-add at (joined-add f 0 n))

module _ (cs : List ℕ) (L : ℕ) where
  abbrev codes : ℕ → ℕ → List ℕ
  codes from n = codes_of false cs L from n

  length-codes : (from n : ℕ) → length (codes from n) ≡ n * L
  length-codes from n =
      length-joined (λ j. code_bytes false cs L (from + j)) L (λ j. length-bytes L (code_of L (of_bits binary64 (get_or cs (from + j) 0)))) n

  -- the room for all of them
  module _ (at : ℕ) {room : ℕ} (h : at + length (element5 false cs L) ≤ room) where
    pub room-each : at + (length cs - 0) * L ≤ room
    room-each =
        let e : length cs - 0 ≡ length cs = omega arith in
        rw (e, ← (length-codes 0 (length cs)), from_zero (code_bytes false cs L) (length cs)) h

    module _ (g : 8 ≤ length cs) where
      pub room-words : at + (length cs - 7 + 7) * L ≤ room
      room-words = let e : length cs - 7 + 7 ≡ length cs - 0 = omega arith in rw e room-each

      pub room-last : at + (length cs - 7) * L + (length cs - (length cs - 7)) * L ≤ room
      room-last = let e : length cs - (length cs - 7) ≡ 7 = omega arith in rw e (omega (arith, room-words, add-mul (length cs - 7) 7 L))

  module _ (l : List ℕ) (at : ℕ) {x : List ℕ} where
    -- all by themselves
    pub each_all : x ≡ sets l at (codes 0 (length cs - 0)) → x ≡ sets l at (element5 false cs L)
    each_all p = let e : length cs - 0 ≡ length cs = omega arith in rw (e, from_zero (code_bytes false cs L) (length cs)) at p

    -- w of them by words: the others, at least seven, cover what the last word left
    pub words-each : Supported L → (w : ℕ) → w + 7 ≤ length cs → {m : List ℕ} → m ≡ sets l at (words_of false cs L 0 w)
        → x ≡ sets m (at + w * L) (codes w (length cs - w)) → x ≡ sets l at (element5 false cs L)
    words-each s w h p q =
        let f = code_bytes false cs L in
        let n : w + (length cs - w) ≡ length cs = omega arith in
        let e : at + w * L ≡ at + length (joined w f) = rw (← (from_zero f w), length-codes 0 w) in
        let g : length (spill false cs L 0 w) ≤ length (codes w (length cs - w)) =
        omega (arith, spill-le false cs L 0 w, length-codes w (length cs - w), mul-le-mul_right {m = 7} {n = length cs - w} L (omega arith)) in
        rw (e, p, from_zero f w, sets-cover l at (joined w f) (spill false cs L 0 w) (codes w (length cs - w)) g, ← (joined-add f w (length cs - w)), n) at q

-- ---- the loop by words, after k of n turns
pub record First (cs : List ℕ) (n L at : ℕ) (l₀ : List ℕ) (k : ℕ) (l : List ℕ) (next : ℕ) : Type 0 where
  pub within : k ≤ n
  pub room : at + (n + 7) * L ≤ length l₀
  pub run : Worded false cs L 0 at l₀ k l next

module _ {cs : List ℕ} {n L at : ℕ} {l₀ : List ℕ} where
  pub first-none : at + (n + 7) * L ≤ length l₀ → First cs n L at l₀ 0 l₀ at
  first-none h = record { within = omega arith; room = h; run = worded-none }

  module _ {k : ℕ} {l : List ℕ} {next : ℕ} (r : First cs n L at l₀ k l next) where
    module _ (s : Supported L) (h : k < n) where
      -- seven codes follow: the word ends with them at the latest
      pub first-room : next + 8 ≤ length l
      first-room =
          omega (arith, r.room, r.run.run.long, r.run.run.on, length-codes cs L 0 k, mul-le-mul_right {m = k + 8} {n = n + 7} L (omega arith), add-mul k 8 L)

      pub first_more : InRange cs → {m : List ℕ} → m ≡ sets l next (coded 8 (get_or cs k 0)) → First cs n L at l₀ (k + 1) m (next + L)
      first_more t e =
          let z : 0 + k ≡ k = zero-add k in
          record { within = omega arith; room = r.room; run = worded-sent r.run s (t (0 + k)) refl (rw z e) }

    pub first_done : n ≤ k → l ≡ sets l₀ at (words_of false cs L 0 n)
    first_done h =
        let e : k ≡ n = omega (arith, r.within) in
        rw e at r.run.run.is

-- the first correlations
module _ (cs : List ℕ) {n k : ℕ} (t : n ≤ length cs) (h : k < length (take n cs)) where
  pub first-left : k < n
  first-left = omega (arith, length-take-le n cs t)

  pub first-is : get_or (take n cs) k 0 ≡ get_or cs k 0
  first-is = get_or-take n cs k 0 first-left

-- ---- the plain loop from slot `from` on, after k turns
abbrev pub Last : (cs : List ℕ) (from L at : ℕ) (l₀ : List ℕ) (k : ℕ) (l : List ℕ) (next : ℕ) → Type 0
Last cs from L at l₀ = Run (length cs - from) (λ j. code_bytes false cs L (from + j)) at l₀

module _ (cs : List ℕ) (from : ℕ) where
  pub last_none : (L : ℕ) {at : ℕ} {l₀ : List ℕ} → at + (length cs - from) * L ≤ length l₀ → Last cs from L at l₀ 0 l₀ at
  last_none L h = run_none (rw (length-codes cs L from (length cs - from)) h)

  -- the correlations from there on
  abbrev rest : List ℕ
  rest = take (length cs - from) (drop from cs)

  module _ {k : ℕ} (h : k < length rest) where
    left : k < length cs - from
    left = omega (arith, length-take-le (length cs - from) (drop from cs) (rw length-drop (omega arith)))

    pub rest-is : get_or rest k 0 ≡ get_or cs (from + k) 0
    rest-is = get_or-take (length cs - from) (drop from cs) k 0 left ∙ get_or-drop from cs k 0

    module _ (L : ℕ) {at : ℕ} {l₀ l : List ℕ} {next : ℕ} (r : Last cs from L at l₀ k l next) where
      pub last-room : next + L ≤ length l
      last-room = rw length-bytes at (run_room r left)

      pub last_more : {m : List ℕ} → m ≡ sets l next (coded L (get_or rest k 0)) → Last cs from L at l₀ (k + 1) m (next + L)
      last_more e = run_more r left (rw rest-is at e) (rw length-bytes)
