-- What a done writer tells: each of its rules passed, and the bytes that it says it wrote are the pack.
-- Assumes nothing.
use mathlib.Core.Path.{◌≡◌, refl, sym, ap, ◌∙◌}
use mathlib.Core.Bool.{false, not}
use mathlib.Core.List.{List, [], ◌∷◌}
use Prim.Native.Nat.{ℕ}
use borrow.Author.Tests.{eqb-true, not-false}
use lib.Dec.{eqb}
use lib.ListN.{length, take}
use Rattle.answers.specs.Table.{Answer, answer, wholes, next, room_rule}
use Rattle.answers.specs.Lent.{leaves}
use Rattle.answers.proofs.Next.{next-zero, next-passed, Says, rules}
use Rattle.layout.specs.Triangle.{slots_of}
use Rattle.plan.specs.Rules.{InRange, Supported}
use Rattle.writer.specs.Pack.{is_sparse, pack_bytes}
use Rattle.plan.specs.Rules.{count_rules, range_rules}
use Rattle.writer.specs.Rules.{write_answer}
use Rattle.plan.proofs.Counts.{all_in}
use Rattle.plan.proofs.Counts.{Counts, counts-tell}
use Rattle.trip.specs.Back.{Back}
use Rattle.trip.proofs.Back.{back}
use Rattle.trip.proofs.Stood.{done-front}

-- ---- the rules
-- the count is M
is-count : (n m : ℕ) → not (eqb m (slots_of n)) ≡ false → m ≡ slots_of n
is-count n m e = eqb-true m (slots_of n) (not-false (eqb m (slots_of n)) e)

count-told : (n m L : ℕ) → Says (λ _. m ≡ slots_of n) (count_rules n m L)
count-told n m L = search (rules, is-count) depth 9

module _ (ds cs : List ℕ) (L room : ℕ) (z : (write_answer ds cs L room).number ≡ 0) where
  abbrev long : ℕ
  long = length (pack_bytes ds cs L)

  abbrev counts : Answer
  counts = count_rules (length ds) (length cs) L

  abbrev done : Answer
  done = answer 0 (wholes (long ∷ []))

  -- the rules behind the counts, and behind the range
  passed : (counts.number ≡ 0) × ((next (range_rules cs) (next (room_rule long room) done)).number ≡ 0)
  passed = next-zero counts (next (range_rules cs) (next (room_rule long room) done)) z

  ranged : ((range_rules cs).number ≡ 0) × ((next (room_rule long room) done).number ≡ 0)
  ranged = next-zero (range_rules cs) (next (room_rule long room) done) passed.1

  -- and behind the room
  roomy : (room_rule long room).number ≡ 0
  roomy = (next-zero (room_rule long room) done ranged.1).0

  -- so the counts are right
  told : Counts (length ds) (length cs) L
  told = (counts-tell (length ds) (length cs) L).done passed.0

  -- the answer carries the pack's length
  written_is : write_answer ds cs L room ≡ done
  written_is =
      next-passed counts (next (range_rules cs) (next (room_rule long room) done)) passed.0
      ∙ next-passed (range_rules cs) (next (room_rule long room) done) ranged.0
      ∙ next-passed (room_rule long room) done roomy

  -- the pack reads back
  pub written_back : Back ds cs L (is_sparse ds cs L) (pack_bytes ds cs L)
  written_back =
      back ds cs L (is_sparse ds cs L) told.rows ((count-told (length ds) (length cs) L).done passed.0) told.clen.0 told.clen.1

  -- the length has codes
  pub written-clen : Supported L
  written-clen = told.clen

  -- every correlation lies in the range
  pub written-range : InRange cs
  written-range = all_in cs ranged.0

-- the number that a done writer carries
one-whole : (n m : ℕ) → answer 0 (wholes (n ∷ [])) ≡ answer 0 (wholes (m ∷ [])) → n ≡ m
one-whole n m e = let c = ap (λ (a : Answer). a.carries) e in cc

-- ---- n bytes were written
pub record Wrote (ds cs : List ℕ) (L : ℕ) (lent left : List ℕ) (n : ℕ) : Type 0 where
  pub answers : answer 0 (wholes (n ∷ [])) ≡ write_answer ds cs L (length lent)
  pub leaves : left ≡ leaves (answer 0 (wholes (n ∷ []))) (pack_bytes ds cs L) lent

module _ {ds cs : List ℕ} {L : ℕ} {lent left : List ℕ} {n : ℕ} (w : Wrote ds cs L lent left n) where
  -- no rule refuses
  pub is-done : (write_answer ds cs L (length lent)).number ≡ 0
  is-done = ap (λ (x : Answer). x.number) (sym w.answers)

  -- they are as many as the pack has
  count : n ≡ length (pack_bytes ds cs L)
  count = one-whole n (length (pack_bytes ds cs L)) (w.answers ∙ written_is ds cs L (length lent) is-done)

  -- and they are the pack
  pub pack-read : take n left ≡ pack_bytes ds cs L
  pack-read = ap (take n) w.leaves ∙ done-front (answer 0 (wholes (n ∷ []))) (pack_bytes ds cs L) lent n refl (sym count)

  -- whose length they have
  pub pack-long : n ≡ length (take n left)
  pack-long = count ∙ ap length (sym pack-read)
