-- The items of a set that no rule refuses join up, and each ends within it.
-- Assumes nothing.
use mathlib.Core.Path.{◌≡◌, refl}
use mathlib.Core.List.{List, [], ◌∷◌, ◌++◌}
use Prim.Native.Nat.{ℕ, zero, suc, ◌+◌, ◌-◌, ◌≤◌, ◌<◌}
use native.Mathlib.Omega.{arith}
use lib.Dec.{ltb}
use lib.ListN.{length}
use borrow.Author.Tests.{ltb-true, ltb-false}
use Rattle.std.specs.Prelude.{None, Some, Option}
use Rattle.answers.proofs.Rules.{by_bool}
use Rattle.answers.proofs.Next.{next-zero}
use Rattle.sets.specs.declared.item.Item.{Item}
use Rattle.sets.specs.Items.{item_at, Placed, placed, items_from}
use Rattle.sets.specs.Packs.{pushed}
use Rattle.sets.specs.Rules.{item_rules, set_rules}
use Rattle.sets.specs.Taken.{WasRead, JoinUp}
use Rattle.sets.proofs.Items.{item-tells, items-none, items-faulty, items-read}

module _ (set : List ℕ) (room : ℕ) where
  -- at the set's end
  join-end : (at : ℕ) → at ≤ length set → length set ≤ at → JoinUp at (items_from set at) (length set)
  join-end at h k = rw (items-none set at k) (omega arith)

  -- one item on
  join-item : (seen at : ℕ) → at < length set → (i : Option Item) → i ≡ item_at set at → (set_rules set room seen (items_from set at)).number ≡ 0
      → ((seen' end : ℕ) → at < end → end ≤ length set → (set_rules set room seen' (items_from set end)).number ≡ 0 → JoinUp end (items_from set end) (length set))
      → JoinUp at (items_from set at) (length set)
  join-item seen at b None q z later = let y : ◌≡◌ {A = ℕ} 10 0 = rw (items-faulty set at b q) at z in absurd (omega arith)
  join-item seen at b (Some i) q z later =
      let e = items-read set at q in
      let t = item-tells set at q in
      let n = seen + length (pushed (Some i)) in
      let rules = (next-zero (item_rules set room seen at (Some i)) (set_rules set room n (items_from set i.end)) (rw e at z)).1 in
      rw e (refl, (omega (arith, t.0), t.1, later n i.end (omega (arith, t.0, t.1)) t.2 rules))

  join_up : (most seen at : ℕ) → length set - at ≤ most → at ≤ length set → (set_rules set room seen (items_from set at)).number ≡ 0
      → JoinUp at (items_from set at) (length set)
  join_up zero seen at m h z = join-end at h (omega arith)
  join_up (suc most) seen at m h z =
      by_bool (ltb at (length set))
      (λ t. join-item seen at (ltb-true at (length set) t) (item_at set at) refl z (λ seen' end l k. join_up most seen' end (omega arith) k))
      (λ f. join-end at h (ltb-false at (length set) f))

  pub joins : (set_rules set room 0 (items_from set 0)).number ≡ 0 → JoinUp 0 (items_from set 0) (length set)
  joins = join_up (length set) 0 0 (omega arith) (omega arith)

-- what joins up to a place ends there at most
was_read : (i : Option Item) (holds : ℕ → ℕ → Type 0) → WasRead i holds → (start : ℕ) × (end : ℕ) × holds start end
was_read None holds w = absurd w
was_read (Some i) holds w = (i.start, i.end, w)

abbrev Joins : ℕ → List Placed → ℕ → ℕ → ℕ → Type 0
Joins from ps to start end = (from < start) × (start ≤ end) × JoinUp end ps to

join-le : (ps : List Placed) (from to : ℕ) → JoinUp from ps to → from ≤ to
join-le [] from to j = omega arith
join-le (p ∷ ps) from to j =
    let w = was_read p.item (Joins from ps to) j.1 in
    omega (arith, w.2.0, w.2.1, join-le ps w.1 to w.2.2)

pub join-within : (ahead rest : List Placed) (from to at : ℕ) (i : Item)
    → JoinUp from (ahead ++ (placed at (Some i) ∷ rest)) to → i.end ≤ to
join-within [] rest from to at i j = join-le rest i.end to j.1.2
join-within (p ∷ ahead) rest from to at i j =
    let w = was_read p.item (Joins from (ahead ++ (placed at (Some i) ∷ rest)) to) j.1 in
    join-within ahead rest w.1 to at i w.2.2
