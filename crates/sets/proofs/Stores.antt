-- The walk that stores the tags: those before a place stand in the front of the list, and those behind it are left.
-- Assumes nothing.
use mathlib.Core.Path.{◌≡◌, refl, sym, ap, ◌∙◌}
use mathlib.Core.Bool.{true, false}
use mathlib.Core.List.{List, [], ◌∷◌}
use Prim.Native.Nat.{ℕ, suc, ◌+◌, ◌-◌, ◌≤◌, ◌<◌}
use native.Mathlib.Numerals.{add-one}
use native.Mathlib.Omega.{arith}
use lib.ListN.{length, drop, get_or, set, length-drop}
use lib.Seq.{drop-cons}
use Rattle.std.specs.Prelude.{None, Some}
use Rattle.answers.specs.Lent.{over}
use Rattle.answers.proofs.Lent.{Front, front-none, front-more, front-done}
use Rattle.sets.specs.declared.item.Item.{Item}
use Rattle.sets.specs.Tags.{is_pushed}
use Rattle.sets.specs.Items.{item_at, Placed, items_from, items_of}
use Rattle.sets.specs.Packs.{tags_of}
use Rattle.sets.proofs.Items.{items_over, items-read}

-- ---- a list whose front is stored, with an entry next
module _ (all lent : List ℕ) {i : ℕ} {l : List ℕ} (f : Front all lent i l) where
  -- nothing is left
  stored-end : drop i all ≡ [] → l ≡ over all lent
  stored-end e =
      let n : length all - i ≡ 0 = sym (length-drop i all) ∙ ap length e in
      front-done f (omega (arith, f.within, n))

  -- something is
  module _ {x : ℕ} {xs : List ℕ} (e : drop i all ≡ x ∷ xs) where
    stored-inside : i < length all
    stored-inside = let n : length all - i ≡ suc (length xs) = sym (length-drop i all) ∙ ap length e in omega (arith, n)

    stored_next : (x ≡ get_or all i 0) × (drop (i + 1) all ≡ xs)
    stored_next =
        let c : x ∷ xs ≡ get_or all i 0 ∷ drop (suc i) all = sym e ∙ drop-cons all i 0 stored-inside in
        ((cc), rw (add-one i) (cc))

module _ (bytes lent : List ℕ) where
  pub record Stored (seen at : ℕ) (tags : List ℕ) : Type 0 where
    pub front : Front (tags_of (items_of bytes)) lent seen tags
    pub left : drop seen (tags_of (items_of bytes)) ≡ tags_of (items_from bytes at)

  pub stored-none : length (tags_of (items_of bytes)) ≤ length lent → Stored 0 0 lent
  stored-none h = record { front = front-none h; left = refl }

  module _ {seen at : ℕ} {tags : List ℕ} (s : Stored seen at tags) where
    -- where no item is read all are stored
    pub stored-all : None ≡ item_at bytes at → tags ≡ over (tags_of (items_of bytes)) lent
    stored-all q =
        stored-end (tags_of (items_of bytes)) lent s.front (s.left ∙ items_over bytes at (λ (ps : List Placed). tags_of ps ≡ []) refl refl q)

    module _ {i : Item} (q : Some i ≡ item_at bytes at) where
      -- a tag that is not pushed is passed over
      pub stored-skip : is_pushed i.tag ≡ false → Stored seen i.end tags
      stored-skip f = record { front = s.front; left = s.left ∙ rw (items-read bytes at q, f) }

      -- one that is pushed is next
      module _ (t : is_pushed i.tag ≡ true) where
        next : drop seen (tags_of (items_of bytes)) ≡ i.tag ∷ tags_of (items_from bytes i.end)
        next = s.left ∙ rw (items-read bytes at q, t)

        pub stored-room : seen < length tags
        stored-room = omega (arith, stored-inside (tags_of (items_of bytes)) lent s.front next, s.front.room, s.front.long)

        pub stored_more : Stored (seen + 1) i.end (set tags seen i.tag)
        stored_more =
            let all = tags_of (items_of bytes) in
            let n = stored_next all lent s.front next in
            record { front = front-more s.front (stored-inside all lent s.front next) n.0; left = n.1 }
