-- The items of a set: an item that is read lies behind its place and within the set, and what comes behind it starts where
-- it ends.
-- Assumes nothing.
use mathlib.Core.Path.{◌≡◌, refl, sym, ap, ◌∙◌}
use mathlib.Core.List.{List, [], ◌∷◌}
use Prim.Native.Nat.{ℕ, zero, suc, ◌+◌, ◌-◌, ◌≤◌, ◌<◌}
use native.Mathlib.Omega.{arith}
use lib.Dec.{leb, ltb}
use lib.ListN.{length, drop}
use borrow.Author.Tests.{le-leb, lt-leb, leb-false, ltb-true, ltb-false}
use Rattle.std.specs.Prelude.{None, Some, Option}
use Rattle.std.proofs.lemmas.Option.{same_Some, none-some}
use Rattle.answers.proofs.Rules.{picked, by_bool}
use Rattle.numbers.specs.declared.ber_oid.BerOid.{BerOid}
use Rattle.numbers.specs.declared.ber.BerLength.{BerLength}
use Rattle.numbers.specs.BerOid.{oid_read_strict}
use Rattle.numbers.specs.Ber.{ber_read_strict}
use Rattle.numbers.proofs.BerOid.{oid-within}
use Rattle.numbers.proofs.Lengths.{ber-within}
use Rattle.sets.specs.declared.item.Item.{Item}
use Rattle.sets.specs.Items.{valued, tagged, item_at, Placed, placed, behind, items_up_to, items_from}

-- ---- one item
-- its value starts a byte or more behind its tag, and ends within the set
module _ (set : List ℕ) {i : Item} where
  value_tells : (t at : ℕ) (r : Option BerLength) → r ≡ ber_read_strict (drop at set) → Some i ≡ valued set t at r
      → (at < i.start) × (i.start ≤ i.end) × (i.end ≤ length set)
  value_tells t at None q h = absurd (none-some i (sym h))
  value_tells t at (Some l) q h₀ =
      picked (λ (o : Option Item). Some i ≡ o → (at < i.start) × (i.start ≤ i.end) × (i.end ≤ length set)) _ _ _
      (λ _ h. absurd (none-some i (sym h)))
      (λ f h.
      let s : i.start ≡ at + l.taken = ap (λ (x : Item). x.start) (same_Some _ _ h) in
      let e : i.end ≡ at + l.taken + l.value = ap (λ (x : Item). x.end) (same_Some _ _ h) in
      let w = ber-within (drop at set) q in
      let g = ltb-false (length set) (at + l.taken + l.value) f in
      (omega (arith, w.0), omega arith, omega arith))
      h₀

  tag-tells : (at : ℕ) (r : Option BerOid) → r ≡ oid_read_strict (drop at set) → Some i ≡ tagged set at r
      → (at + 1 < i.start) × (i.start ≤ i.end) × (i.end ≤ length set)
  tag-tells at None q h = absurd (none-some i (sym h))
  tag-tells at (Some t) q h =
      let v = value_tells t.value (at + t.taken) (ber_read_strict (drop (at + t.taken) set)) refl h in
      (omega (arith, v.0, (oid-within (drop at set) q).0), v.1, v.2)

  -- an item takes two bytes or more
  pub item-tells : (at : ℕ) → Some i ≡ item_at set at → (at + 1 < i.start) × (i.start ≤ i.end) × (i.end ≤ length set)
  unfolding item_at
  item-tells at h = tag-tells at (oid_read_strict (drop at set)) refl h

-- ---- all of them
-- as many as there are bytes are enough
enough : (set : List ℕ) (m n at : ℕ) → length set - at ≤ m → length set - at ≤ n → items_up_to m set at ≡ items_up_to n set at
unfolding items_up_to
enough set zero zero at h k = refl
enough set zero (suc n) at h k = rw (le-leb (length set) at (omega arith))
enough set (suc m) zero at h k = rw (le-leb (length set) at (omega arith))
enough set (suc m) (suc n) at h k =
    by_bool (leb (length set) at) (λ t. rw t)
    (λ f. rw f (ap (λ (ps : List Placed). placed at (item_at set at) ∷ ps)
    (on (item_at set at) refl (λ end l. enough set m n end (omega (arith, leb-false (length set) at f)) (omega (arith, leb-false (length set) at f))))))
  where
    on : (i : Option Item) → i ≡ item_at set at → ((end : ℕ) → at < end → items_up_to m set end ≡ items_up_to n set end)
        → behind i (λ e. items_up_to m set e) ≡ behind i (λ e. items_up_to n set e)
    on None q same = refl
    on (Some i) q same = let t = item-tells set at q in same i.end (omega (arith, t.0, t.1))

module _ (set : List ℕ) (at : ℕ) where
  -- at the set's end there are none
  pub items-none : length set ≤ at → items_from set at ≡ []
  unfolding items_up_to
  items-none h = let e : length set - at ≡ 0 = omega arith in rw e

  -- before it there is one, and what comes behind it
  items_more : at < length set → items_from set at ≡ placed at (item_at set at) ∷ behind (item_at set at) (λ e. items_up_to (length set - at - 1) set e)
  unfolding items_up_to
  items_more h =
      let e : length set - at ≡ suc (length set - at - 1) = omega arith in
      ap (λ (m : ℕ). items_up_to m set at) e ∙ rw (lt-leb (length set) at h)

  pub items-faulty : at < length set → None ≡ item_at set at → items_from set at ≡ placed at None ∷ []
  items-faulty h q = items_more h ∙ rw (← q)

  -- where none is read there is a faulty one, or none
  pub items_over : (P : List Placed → Type 0) → P [] → P (placed at None ∷ []) → None ≡ item_at set at → P (items_from set at)
  items_over P e f q =
      by_bool (ltb at (length set))
      (λ t. rw (items-faulty (ltb-true at (length set) t) q) f) (λ k. rw (items-none (ltb-false at (length set) k)) e)

  pub items-read : {i : Item} → Some i ≡ item_at set at → items_from set at ≡ placed at (Some i) ∷ items_from set i.end
  items-read {i} q =
      let t = item-tells set at q in
      items_more (omega (arith, t.0, t.1, t.2)) ∙ rw (← q)
      (ap (λ (ps : List Placed). placed at (Some i) ∷ ps)
      (enough set (length set - at - 1) (length set - i.end) i.end (omega (arith, t.0, t.1)) (omega arith)))
