-- The part of the words that a list has, where the words are fewer too.
-- Assumes nothing.
use mathlib.Core.Path.{◌≡◌, ap, ◌∙◌}
use mathlib.Core.List.{List, [], ◌∷◌, ◌++◌}
use Prim.Native.Nat.{ℕ, zero, suc, ◌-◌, ◌≤◌, min}
use native.Mathlib.Nat.{zero-min, min-zero, suc-min-suc}
use native.Mathlib.Omega.{arith}
use borrow.Rule.Slice.PartMut.{mid_of, put_mid, Post-is}
use lib.Dec.{eqb}
use lib.ListN.{length, take, drop, length-drop}
use Rattle.answers.specs.Lent.{over}
use Rattle.answers.proofs.Rules.{picked}
use Rattle.std.specs.Prelude.{Option}
use Rattle.text.specs.declared.numeral.Numeral.{Numeral}
use Rattle.text.specs.Entries.{list_at, listed_at}
use Rattle.requests.specs.declared.fields.Part.{Part}
use Rattle.requests.specs.Fields.{part_of, room_of, list_in, words_in}

take_within : (n : ℕ) (l : List ℕ) → take (min n (length l)) l ≡ take n l
take_within zero l = rw (zero-min (length l))
take_within (suc n) [] = rw (min-zero (suc n))
take_within (suc n) (x ∷ l) = rw (suc-min-suc n (length l)) (ap (λ (t : List ℕ). x ∷ t) (take_within n l))

drop-within : (n : ℕ) (l : List ℕ) → drop (min n (length l)) l ≡ drop n l
drop-within zero l = rw (zero-min (length l))
drop-within (suc n) [] = rw (min-zero (suc n))
drop-within (suc n) (x ∷ l) = rw (suc-min-suc n (length l)) (drop-within n l)

-- no part ends before it starts
pub part-ordered : (letter : ℕ) → (part_of letter).start ≤ (part_of letter).end
unfolding part_of
part-ordered letter =
    picked (λ (p : Part). p.start ≤ p.end) (eqb letter 0x53) _ _ (λ _. omega arith)
    (λ _. picked (λ (p : Part). p.start ≤ p.end) (eqb letter 0x43) _ _ (λ _. omega arith) (λ _. omega arith))

-- ---- a part that is lent as far as the words go
module _ (part : Part) (h : part.start ≤ part.end) (words : List ℕ) {start end : ℕ}
    (s : start ≡ min part.start (length words)) (e : end ≡ min part.end (length words)) where
  behind : drop start words ≡ drop part.start words
  behind = rw s (drop-within part.start words)

  pub part-lent : mid_of start (end - start) words ≡ room_of part words
  part-lent =
      let n : end - start ≡ min (part.end - part.start) (length (drop part.start words))
      = omega (arith, length-drop part.start words) in
      rw (behind, n) (take_within (part.end - part.start) (drop part.start words))

  pub part-back : (m : List ℕ)
      → put_mid start (end - start) words m ≡ take part.start words ++ (m ++ drop part.end words)
  part-back m =
      let o : start ≤ end = omega arith in
      rw (Post-is start end words o, s, e, take_within part.start words, drop-within part.end words)

  -- what is read into it is the list
  pub part-listed : (line : List ℕ) (at : ℕ) {r : Option Numeral} {m : List ℕ}
      → let lent = mid_of start (end - start) words in
      (r ≡ list_at part.entry (length lent) line at)
      × (m ≡ over (listed_at part.entry (length lent) line at) lent)
      → (r ≡ list_in part line at words) × (put_mid start (end - start) words m ≡ words_in part line at words)
  part-listed line at {r} {m} (a, b) = (rw part-lent at a, part-back m ∙ rw (rw part-lent at b))
