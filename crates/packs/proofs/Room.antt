-- A tag list with an entry for each two bytes of the set is never full.
-- Assumes nothing.
use mathlib.Core.Path.{◌≡◌, refl, ap, ap₂}
use mathlib.Core.Bool.{false, and-false}
use mathlib.Core.List.{List, [], ◌∷◌, ◌++◌}
use Prim.Native.Nat.{ℕ, zero, suc, ◌+◌, ◌-◌, ◌*◌, ◌≤◌}
use native.Mathlib.Omega.{arith}
use borrow.Author.Tests.{lt-leb, ltb-false}
use lib.Dec.{leb}
use lib.ListN.{length, length-append}
use Rattle.std.specs.Prelude.{None, Some, Option}
use Rattle.answers.specs.Table.{Answer, next}
use Rattle.answers.proofs.Rules.{picked, by_bool}
use Rattle.sets.specs.declared.item.Item.{Item}
use Rattle.sets.specs.Items.{Placed, item_at, behind, items_up_to, items_of}
use Rattle.sets.specs.Packs.{pushed, tags_of}
use Rattle.sets.specs.Rules.{pack_rule, room_rule, item_rules, set_rules, set_answer}
use Rattle.sets.specs.Tags.{is_pushed}
use Rattle.sets.proofs.Items.{item-tells}
use Rattle.sets.proofs.Walk.{pushed-count, one}
use Rattle.packs.specs.Printed.{max_bytes, max_tags, is_too_big}

-- ---- a tag takes two bytes at least
one-pushed : (i : Option Item) → length (pushed i) ≤ 1
one-pushed None = omega arith
one-pushed (Some i) = rw (pushed-count i) (one (is_pushed i.tag))

module _ (set : List ℕ) where
  -- those of an item and of what comes behind it
  two_bytes : (at : ℕ) (i : Option Item) → i ≡ item_at set at → (rest : ℕ → List Placed) → ((end : ℕ) → 2 * length (tags_of (rest end)) ≤ length set - end)
      → 2 * length (pushed i ++ tags_of (behind i rest)) ≤ length set - at
  two_bytes at None q rest h = omega arith
  two_bytes at (Some i) q rest h =
      let t = item-tells set at q in
      omega (arith, length-append (pushed (Some i)) (tags_of (rest i.end)), one-pushed (Some i), h i.end, t.0, t.1, t.2)

  tags-from : (most at : ℕ) → 2 * length (tags_of (items_up_to most set at)) ≤ length set - at
  unfolding items_up_to
  tags-from zero at = omega arith
  tags-from (suc most) at =
      picked (λ (ps : List Placed). 2 * length (tags_of ps) ≤ length set - at) (leb (length set) at) _ _ (λ _. omega arith)
      (λ _. two_bytes at (item_at set at) refl (λ end. items_up_to most set end) (λ end. tags-from most end))

-- ---- where there is room for all of them, it does not matter how much
module _ (set : List ℕ) (r s : ℕ) where
  room-same : (seen : ℕ) (i : Item) → seen + length (pushed (Some i)) ≤ r → seen + length (pushed (Some i)) ≤ s
      → room_rule r seen i.tag ≡ room_rule s seen i.tag
  room-same seen i h k =
      by_bool (is_pushed i.tag)
      (λ t. let one : length (pushed (Some i)) ≡ 1 = rw t in rw (t, lt-leb r seen (omega arith), lt-leb s seen (omega arith)))
      (λ f. rw (f, and-false (leb r seen), and-false (leb s seen)))

  item-same : (seen at : ℕ) (i : Option Item) → seen + length (pushed i) ≤ r → seen + length (pushed i) ≤ s
      → item_rules set r seen at i ≡ item_rules set s seen at i
  item-same seen at None h k = refl
  item-same seen at (Some i) h k = ap (λ (a : Answer). next (pack_rule set i.tag i.start i.end) a) (room-same seen i h k)

  rules-same : (seen : ℕ) (ps : List Placed) → seen + length (tags_of ps) ≤ r → seen + length (tags_of ps) ≤ s
      → set_rules set r seen ps ≡ set_rules set s seen ps
  rules-same seen [] h k = refl
  rules-same seen (p ∷ ps) h k =
      let l = length-append (pushed p.item) (tags_of ps) in
      ap₂ next (item-same seen p.at p.item (omega (arith, l)) (omega (arith, l)))
      (rules-same (seen + length (pushed p.item)) ps (omega (arith, l)) (omega (arith, l)))

  enough : length set ≤ 2 * r → length set ≤ 2 * s → set_answer set r ≡ set_answer set s
  enough h k =
      let t = tags-from set (length set - 0) 0 in
      rw (rules-same 0 (items_of set) (omega arith) (omega arith))

-- the program's own list: a longer one gives no other answer
pub never-full : (set : List ℕ) (more : ℕ) → is_too_big set ≡ false → set_answer set max_tags ≡ set_answer set (max_tags + more)
never-full set more f = let h = ltb-false max_bytes (length set) f in enough set max_tags (max_tags + more) (omega arith) (omega arith)
