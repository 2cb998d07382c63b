-- A walk that decides a set: what it has counted up to a place, and what is left of the rules.
-- Assumes nothing.
use mathlib.Core.Path.{◌≡◌, refl, ◌∙◌}
use mathlib.Core.Bool.{Bool, true, false, ◌&&◌}
use mathlib.Core.List.{List, [], ◌∷◌}
use Prim.Native.Nat.{ℕ, suc, ◌+◌, ◌≤◌, ◌<◌}
use native.Mathlib.Omega.{arith}
use lib.Dec.{eqb, leb}
use borrow.Author.Tests.{leb-false}
use lib.ListN.{length, length-append}
use Rattle.std.specs.Prelude.{None, Some, Option}
use Rattle.answers.specs.Table.{answer, wholes, pick, passes, next}
use Rattle.answers.specs.Listed.{listed}
use Rattle.answers.specs.declared.Refusal.{Refusal}
use Rattle.answers.proofs.Rules.{by_bool}
use Rattle.answers.proofs.Next.{next-zero}
use Rattle.answers.proofs.OneToOne.{refused-not-done}
use Rattle.layout.specs.Size.{peeked}
use Rattle.sets.specs.declared.item.Item.{Item}
use Rattle.sets.specs.declared.pack.PackPlace.{PackPlace}
use Rattle.sets.specs.Tags.{pack_tag, is_pushed, tag_count, pack_count}
use Rattle.sets.specs.Parts.{part_of}
use Rattle.sets.specs.Items.{item_at, items_from, items_of}
use Rattle.sets.specs.Packs.{pushed, tags_of, sized_pack, pack_in, before, packs_of}
use Rattle.sets.specs.Rules.{peek_rule, pack_rule, room_rule, set_rules, counts, set_answer}
use Rattle.sets.proofs.Items.{item-tells, items-none, items-faulty, items-read}

pub pushed-count : (i : Item) → length (pushed (Some i)) ≡ tag_count i.tag
pushed-count i = by_bool (is_pushed i.tag) (λ t. rw t) (λ f. rw f)

-- a count of none or one
pub one : (b : Bool) → pick b 1 0 ≤ 1
one true = omega arith
one false = omega arith

-- a tag that is pushed has room
pub room-held : (room seen tag : ℕ) → seen ≤ room → (room_rule room seen tag).number ≡ 0 → seen + tag_count tag ≤ room
room-held room seen tag h z = go (leb room seen) (is_pushed tag) refl z
  where
    go : (b c : Bool) → leb room seen ≡ b → (pick (b && c) (answer 5 (wholes (suc room ∷ room ∷ []))) passes).number ≡ 0 → seen + pick c 1 0 ≤ room
    go true true e z = absurd (omega arith)
    go false true e z = omega (arith, leb-false room seen e)
    go b false e z = omega arith

-- a pack that peek passes is one
pack-counted : (set : List ℕ) (seen tag start end : ℕ) (ps : List PackPlace) → (pack_rule set tag start end).number ≡ 0
    → length (before (pack_in set seen tag start end) ps) ≡ pack_count tag + length ps
pack-counted set seen tag start end ps = go (eqb tag pack_tag) (peeked (part_of start end set))
  where
    go : (b : Bool) (r : Option ℕ) → (pick b (peek_rule r) passes).number ≡ 0
        → length (before (pick b (sized_pack seen start end r) None) ps) ≡ pick b 1 0 + length ps
    go true (Some n) z = omega arith
    go true None z = absurd (omega arith)
    go false r z = omega arith

module _ (set : List ℕ) (room : ℕ) where
  pub record Walk (packs seen at : ℕ) : Type 0 where
    pub within : at ≤ length set
    pub few : seen ≤ at
    pub fewer : packs ≤ at
    pub held : seen ≤ room
    pub rules : set_rules set room 0 (items_of set) ≡ set_rules set room seen (items_from set at)
    pub packed : length (packs_of set 0 (items_of set)) ≡ packs + length (packs_of set seen (items_from set at))
    pub tagged : length (tags_of (items_of set)) ≡ seen + length (tags_of (items_from set at))

  pub walk_none : Walk 0 0 0
  walk_none =
      record { within = omega arith; few = omega arith; fewer = omega arith; held = omega arith; rules = refl; packed = omega arith; tagged = omega arith }

  module _ {packs seen at : ℕ} (w : Walk packs seen at) where
    -- a faulty item ends it
    pub walk-faulty : at < length set → None ≡ item_at set at → set_answer set room ≡ answer 10 (wholes (at ∷ []))
    walk-faulty inside q = rw (w.rules, items-faulty set at inside q)

    module _ {i : Item} (q : Some i ≡ item_at set at) where
      -- so does one that is refused
      pub walk_refused : (r : Refusal) → listed r ≡ next (pack_rule set i.tag i.start i.end) (room_rule room seen i.tag) → set_answer set room ≡ listed r
      walk_refused r e =
          let s : set_rules set room 0 (items_of set) ≡ listed r = w.rules ∙ rw (items-read set at q, ← e, refused-not-done r) in
          rw (s, refused-not-done r)

      -- and one that passes is counted
      pub walk-on : (next (pack_rule set i.tag i.start i.end) (room_rule room seen i.tag)).number ≡ 0 → Walk (packs + pack_count i.tag) (seen + tag_count i.tag) i.end
      walk-on z =
          let t = item-tells set at q in
          let p = next-zero (pack_rule set i.tag i.start i.end) (room_rule room seen i.tag) z in
          let items = items-read set at q in
          let count = pushed-count i in
          let rest = items_from set i.end in
          record {
            within = t.2;
            few = omega (arith, t.0, t.1, w.few, one (is_pushed i.tag));
            fewer = omega (arith, t.0, t.1, w.fewer, one (eqb i.tag pack_tag));
            held = room-held room seen i.tag w.held p.1;
            rules = w.rules ∙ rw (items, z, count);
            packed = w.packed
                ∙ rw (items, count, pack-counted set seen i.tag i.start i.end (packs_of set (seen + tag_count i.tag) rest) p.0) (omega arith);
            tagged = w.tagged ∙ rw (items, length-append (pushed (Some i)) (tags_of rest), count) (omega arith);
          }

  -- at the set's end all is counted
  pub walk-all : {packs seen at : ℕ} → Walk packs seen at → length set ≤ at → set_answer set room ≡ counts packs seen
  walk-all {packs} {seen} {at} w h =
      let none = items-none set at h in
      let p : length (packs_of set 0 (items_of set)) ≡ packs = w.packed ∙ rw none (omega arith) in
      let t : length (tags_of (items_of set)) ≡ seen = w.tagged ∙ rw none (omega arith) in
      rw (w.rules, none, p, t)
