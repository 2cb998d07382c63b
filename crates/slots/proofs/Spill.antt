-- Laws of codes by words of eight bytes: how much a word leaves behind its code, and a loop that writes the words, each
-- over what the one before it left.
-- Assumes nothing.
use mathlib.Core.Path.{◌≡◌, refl, sym, ap, ◌∙◌}
use mathlib.Core.Bool.{Bool, true, false}
use mathlib.Core.List.{List, [], ◌++◌, append-nil, append_assoc}
use Prim.Native.Nat.{ℕ, zero, suc, ◌+◌, ◌-◌, ◌≤◌}
use native.Mathlib.Nat.{add-zero}
use native.Mathlib.Numerals.{add-one}
use native.Mathlib.Omega.{arith}
use lib.Dec.{T}
use lib.ListN.{length, get_or, drop, length-append, length-drop}
use lib.Seq.{sets, length-sets}
use lib.Ieee.{binary64, of_bits}
use Rattle.answers.specs.Lent.{joined}
use Rattle.answers.proofs.Rules.{picked}
use Rattle.answers.proofs.Stored.{sets-cover}
use Rattle.numbers.proofs.Bytes.{length-bytes}
use Rattle.imapb.specs.Mapping.{code_of, in_range}
use Rattle.plan.specs.Rules.{Supported}
use Rattle.slots.specs.Slots.{coded, sent, code_bytes}
use Rattle.slots.specs.Fill.{spill}
use Rattle.slots.proofs.Words.{word-front}

pub length-word : (c : ℕ) → length (coded 8 c) ≡ 8
length-word c = length-bytes 8 (code_of 8 (of_bits binary64 c))

-- ---- what n slots from `from` on leave behind the last code
module _ (sparse : Bool) (cs : List ℕ) (L from : ℕ) where
  pub spill-le : (n : ℕ) → length (spill sparse cs L from n) ≤ 8 - L
  spill-le zero = omega arith
  spill-le (suc n) =
      picked (λ (x : List ℕ). length x ≤ 8 - L) (sent sparse cs (from + n)) (drop L (coded 8 (get_or cs (from + n) 0))) (spill sparse cs L from n)
      (λ _. rw (length-drop, length-word (get_or cs (from + n) 0)) (omega arith)) (λ _. spill-le n)

-- ---- a loop that writes what f gives one behind the other from `at` on over l₀, after i turns, with some bytes left
-- behind the last
pub record Spilt (f : ℕ → List ℕ) (at : ℕ) (l₀ : List ℕ) (i : ℕ) (left l : List ℕ) (next : ℕ) : Type 0 where
  pub long : length l ≡ length l₀
  pub on : next ≡ at + length (joined i f)
  pub is : l ≡ sets l₀ at (joined i f ++ left)

module _ {f : ℕ → List ℕ} {at : ℕ} {l₀ : List ℕ} where
  pub spilt-none : Spilt f at l₀ 0 [] l₀ at
  spilt-none = record { long = refl; on = sym (add-zero at); is = refl }

  module _ {i : ℕ} {left l : List ℕ} {next : ℕ} (r : Spilt f at l₀ i left l next) where
    -- the next list with x behind it, over what the one before it left
    pub spilt-more : {m : List ℕ} {y : ℕ} (w x : List ℕ) → m ≡ sets l next w → w ≡ f i ++ x → length left ≤ length w → y ≡ next + length (f i)
        → Spilt f at l₀ (i + 1) x m y
    spilt-more w x e p h q =
        record {
          long = ap length e ∙ length-sets l next w ∙ r.long;
          on = rw (add-one, length-append) (omega (arith, r.on));
          is = rw (add-one, append_assoc, ← p, e, r.is, r.on) (sets-cover l₀ at (joined i f) left w h);
        }

    -- nothing is written
    pub spilt-same : f i ≡ [] → Spilt f at l₀ (i + 1) left l next
    spilt-same e = record { long = r.long; on = rw (add-one, e, append-nil) r.on; is = rw (add-one, e, append-nil) r.is }

-- ---- the loop over the slots from `from` on, by words, after i of them
pub record Worded (sparse : Bool) (cs : List ℕ) (L from at : ℕ) (l₀ : List ℕ) (i : ℕ) (l : List ℕ) (next : ℕ) : Type 0 where
  pub run : Spilt (λ k. code_bytes sparse cs L (from + k)) at l₀ i (spill sparse cs L from i) l next

pub worded-none : {sparse : Bool} {cs : List ℕ} {L from at : ℕ} {l₀ : List ℕ} → Worded sparse cs L from at l₀ 0 l₀ at
worded-none = record { run = spilt-none }

module _ {sparse : Bool} {cs : List ℕ} {L from at : ℕ} {l₀ : List ℕ} {i : ℕ} {l : List ℕ} {next : ℕ} (r : Worded sparse cs L from at l₀ i l next) where
  -- a slot that is sent: its word
  pub worded-sent : Supported L → T (in_range (of_bits binary64 (get_or cs (from + i) 0))) → sent sparse cs (from + i) ≡ true → {m : List ℕ}
      → m ≡ sets l next (coded 8 (get_or cs (from + i) 0)) → Worded sparse cs L from at l₀ (i + 1) m (next + L)
  worded-sent s t b e =
      let c = get_or cs (from + i) 0 in
      let p : code_bytes sparse cs L (from + i) ≡ coded L c = rw b in
      let q : spill sparse cs L from (i + 1) ≡ drop L (coded 8 c) = rw (add-one, b) in
      let n : length (code_bytes sparse cs L (from + i)) ≡ L = rw (p, length-bytes) in
      let h : length (spill sparse cs L from i) ≤ length (coded 8 c) = omega (arith, length-word c, spill-le sparse cs L from i) in
      record { run = rw q (spilt-more r.run (coded 8 c) (drop L (coded 8 c)) e (rw p (word-front L c s t)) h (omega (arith, n))) }

  -- one that is not
  pub worded-left : sent sparse cs (from + i) ≡ false → Worded sparse cs L from at l₀ (i + 1) l next
  worded-left b =
      let q : spill sparse cs L from (i + 1) ≡ spill sparse cs L from i = rw (add-one, b) in
      record { run = rw q (spilt-same r.run (rw b)) }
