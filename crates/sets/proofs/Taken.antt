-- A set that is taken: it has its packs, and room for its tags.
-- Assumes nothing.
use mathlib.Core.Path.{◌≡◌}
use mathlib.Core.List.{List, [], ◌∷◌}
use Prim.Native.Nat.{ℕ, ◌+◌, ◌≤◌}
use native.Mathlib.Omega.{arith}
use lib.ListN.{length, length-append}
use Rattle.std.specs.Prelude.{None, Some, Option}
use Rattle.answers.specs.Listed.{listed}
use Rattle.answers.specs.declared.Refusal.{Refusal}
use Rattle.answers.proofs.Next.{next-zero}
use Rattle.answers.proofs.OneToOne.{refused-not-done}
use Rattle.sets.specs.declared.item.Item.{Item}
use Rattle.sets.specs.Items.{Placed, items_of}
use Rattle.sets.specs.Packs.{pushed, tags_of, packs_of}
use Rattle.sets.specs.Rules.{item_rules, pack_rule, room_rule, set_rules, counts, set_answer}
use Rattle.sets.specs.Handed.{taken_packs}
use Rattle.sets.proofs.Walk.{pushed-count, room-held}

module _ (set : List ℕ) (room : ℕ) where
  pub taken-packs : (set_answer set room).number ≡ 0 → taken_packs set room ≡ packs_of set 0 (items_of set)
  taken-packs z = rw z

  pub refused-packs : (r : Refusal) → listed r ≡ set_answer set room → taken_packs set room ≡ []
  refused-packs r e = rw (← e, refused-not-done r)

  -- every tag that is pushed has room
  item-held : (at seen : ℕ) (i : Option Item) → seen ≤ room → (item_rules set room seen at i).number ≡ 0 → seen + length (pushed i) ≤ room
  item-held at seen None h z = absurd (omega arith)
  item-held at seen (Some i) h z =
      rw (pushed-count i) (room-held room seen i.tag h (next-zero (pack_rule set i.tag i.start i.end) (room_rule room seen i.tag) z).1)

  tags-left : (ps : List Placed) (seen : ℕ) → seen ≤ room → (set_rules set room seen ps).number ≡ 0 → seen + length (tags_of ps) ≤ room
  tags-left [] seen h z = omega arith
  tags-left (p ∷ ps) seen h z =
      let n = seen + length (pushed p.item) in
      let b = next-zero (item_rules set room seen p.at p.item) (set_rules set room n ps) z in
      rw (length-append (pushed p.item) (tags_of ps)) (omega (arith, tags-left ps n (item-held p.at seen p.item h b.0) b.1))

  pub tags-held : (set_answer set room).number ≡ 0 → length (tags_of (items_of set)) ≤ room
  tags-held z =
      let rules = (next-zero (set_rules set room 0 (items_of set)) (counts (length (packs_of set 0 (items_of set))) (length (tags_of (items_of set)))) z).0 in
      omega (arith, tags-left (items_of set) 0 (omega arith) rules)
