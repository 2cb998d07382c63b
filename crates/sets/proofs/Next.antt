-- From pack to pack: what comes behind a pack is what a cursor that stands there finds.
-- Assumes nothing.
use mathlib.Core.Path.{◌≡◌, refl, sym, ap, ◌∙◌}
use mathlib.Core.Bool.{Bool, true, false}
use mathlib.Core.List.{List, [], ◌∷◌}
use Prim.Native.Nat.{ℕ, zero, suc, ◌+◌, ◌-◌, ◌≤◌, ◌<◌}
use native.Mathlib.Omega.{arith}
use lib.Dec.{eqb, ltb}
use lib.ListN.{length}
use borrow.Author.Tests.{ltb-true, ltb-false, eqb-true, le-leb}
use Rattle.std.specs.Prelude.{None, Some, Option}
use Rattle.answers.specs.Table.{pick}
use Rattle.answers.proofs.Rules.{by_bool}
use Rattle.layout.specs.Size.{peeked}
use Rattle.sets.specs.declared.item.Item.{Item}
use Rattle.sets.specs.declared.pack.PackPlace.{PackPlace}
use Rattle.sets.specs.Tags.{pack_tag, is_pushed, tag_count}
use Rattle.sets.specs.Parts.{part_of}
use Rattle.sets.specs.Items.{item_at, Placed, items_from}
use Rattle.sets.specs.Packs.{sized_pack, place, pack_in, before, packs_of, nth, next_pack}
use Rattle.sets.proofs.Items.{item-tells, items-none, items-faulty, items_over, items-read}
use Rattle.sets.proofs.Walk.{pushed-count, one}

-- a pack that is found: its item's tag, and its places
pub record Found (set : List ℕ) (seen tag start end : ℕ) (p : PackPlace) : Type 0 where
  pub pack : tag ≡ pack_tag
  pub starts : p.start ≡ start
  pub ends : p.end ≡ end
  pub to : p.to ≡ seen
  pub n : ℕ
  pub size : peeked (part_of start end set) ≡ Some n
  pub from : p.from ≡ seen - n

abbrev place_in : PackPlace → Option PackPlace → PackPlace
place_in other (Some p) = p
place_in other None = other

pub pack-tells : (set : List ℕ) (seen tag start end : ℕ) {p : PackPlace} → pack_in set seen tag start end ≡ Some p → Found set seen tag start end p
pack-tells set seen tag start end {p} = go (eqb tag pack_tag) (peeked (part_of start end set)) refl refl
  where
    go : (b : Bool) (r : Option ℕ) → eqb tag pack_tag ≡ b → peeked (part_of start end set) ≡ r
        → pick b (sized_pack seen start end r) None ≡ Some p → Found set seen tag start end p
    go true (Some n) t e h =
        let same : p ≡ place start end (seen - n) seen = ap (place_in p) (sym h) in
        record {
          pack = eqb-true tag pack_tag t;
          starts = ap (λ (q : PackPlace). q.start) same;
          ends = ap (λ (q : PackPlace). q.end) same;
          to = ap (λ (q : PackPlace). q.to) same;
          n = n;
          size = e;
          from = ap (λ (q : PackPlace). q.from) same;
        }
    go true None t e h = let z : ◌≡◌ {A = ℕ} 0 1 = cc in absurd (omega arith)
    go false r t e h = let z : ◌≡◌ {A = ℕ} 0 1 = cc in absurd (omega arith)

-- no pack is pushed
pack-uncounted : (seen tag : ℕ) → tag ≡ pack_tag → seen + tag_count tag ≡ seen
pack-uncounted seen tag e = rw e (omega arith)

-- the packs behind the first
abbrev Behind : List ℕ → PackPlace → List PackPlace → Type 0
Behind set p ps = (p.to ≤ p.end) × (ps ≡ packs_of set p.to (items_from set p.end))

-- one item on: the first pack is its own, or one behind it
module _ (set : List ℕ) (seen at : ℕ) (few : seen ≤ at) (p : PackPlace) (ps : List PackPlace) where
  abbrev Later : Type 0
  Later = (seen' end : ℕ) → at < end → seen' ≤ end → packs_of set seen' (items_from set end) ≡ p ∷ ps → Behind set p ps

  first-or-later : (tag : ℕ) {start end : ℕ} → at + 1 < start → start ≤ end → Later → (x : Option PackPlace) → pack_in set seen tag start end ≡ x
      → before x (packs_of set (seen + tag_count tag) (items_from set end)) ≡ p ∷ ps → Behind set p ps
  first-or-later tag {start} {end} a b later None x e =
      later (seen + tag_count tag) end (omega arith) (omega (arith, one (is_pushed tag))) e
  first-or-later tag {start} {end} a b later (Some r) x e =
      let f = pack-tells set seen tag start end x in
      let same : r ≡ p = cc in
      let rest : packs_of set (seen + tag_count tag) (items_from set end) ≡ ps = cc in
      rw (← same, f.to, f.ends) (omega arith, sym rest ∙ rw (pack-uncounted seen tag f.pack))

  item_on : at < length set → Later → (i : Option Item) → i ≡ item_at set at → packs_of set seen (items_from set at) ≡ p ∷ ps → Behind set p ps
  item_on b later None q e =
      let z : ◌≡◌ {A = List PackPlace} [] (p ∷ ps) = rw (items-faulty set at b q) at e in
      let o : ◌≡◌ {A = ℕ} 0 1 = cc in
      absurd (omega arith)
  item_on b later (Some i) q e =
      let t = item-tells set at q in
      first-or-later i.tag t.0 t.1 later (pack_in set seen i.tag i.start i.end) refl (rw (items-read set at q, pushed-count i) at e)

  none-on : length set ≤ at → packs_of set seen (items_from set at) ≡ p ∷ ps → ⊥
  none-on h e =
      let z : ◌≡◌ {A = List PackPlace} [] (p ∷ ps) = rw (items-none set at h) at e in
      let o : ◌≡◌ {A = ℕ} 0 1 = cc in
      omega arith

packs-behind : (set : List ℕ) (most seen at : ℕ) → length set - at ≤ most → seen ≤ at → {p : PackPlace} {ps : List PackPlace}
    → packs_of set seen (items_from set at) ≡ p ∷ ps → Behind set p ps
packs-behind set zero seen at m few {p} {ps} e = absurd (none-on set seen at few p ps (omega arith) e)
packs-behind set (suc most) seen at m few {p} {ps} e =
    by_bool (ltb at (length set))
    (λ t. item_on set seen at few p ps (ltb-true at (length set) t) (λ seen' end l k. packs-behind set most seen' end (omega arith) k) (item_at set at) refl e)
    (λ f. absurd (none-on set seen at few p ps (ltb-false at (length set) f) e))

-- ---- pack by pack
-- where there is no pack k there is none behind it
pub nth-none : (j k : ℕ) (ps : List PackPlace) → j ≤ k → nth j ps ≡ None → nth k ps ≡ None
nth-none j k [] h e = refl
nth-none zero k (p ∷ ps) h e = let o : ◌≡◌ {A = ℕ} 0 1 = cc in absurd (omega arith)
nth-none (suc j) zero (p ∷ ps) h e = absurd (omega arith)
nth-none (suc j) (suc k) (p ∷ ps) h e = nth-none j k ps (omega arith) e

-- what a cursor at pack j finds is pack j+1
pub next-nth : (set : List ℕ) (j : ℕ) (all : List PackPlace) (seen at : ℕ) → seen ≤ at → packs_of set seen (items_from set at) ≡ all
    → {p : PackPlace} → nth j all ≡ Some p → next_pack set p ≡ nth (suc j) all
next-nth set j [] seen at few e q = let o : ◌≡◌ {A = ℕ} 0 1 = cc in absurd (omega arith)
next-nth set zero (r ∷ rs) seen at few e {p} q =
    let b = packs-behind set (length set - at) seen at (omega arith) few e in
    let same : r ≡ p = cc in
    rw (← same, le-leb r.to r.end b.0, ← b.1)
next-nth set (suc j) (r ∷ rs) seen at few e q =
    let b = packs-behind set (length set - at) seen at (omega arith) few e in
    next-nth set j rs r.to r.end b.0 (sym b.1) q

-- ---- the walk that looks for the first pack from a place on: what it finds is what is left
module _ (set : List ℕ) (seen₀ at₀ : ℕ) where
  abbrev First : Option PackPlace
  First = nth 0 (packs_of set seen₀ (items_from set at₀))

  pub record Seeks (seen at : ℕ) : Type 0 where
    pub few : seen ≤ at
    pub left : First ≡ nth 0 (packs_of set seen (items_from set at))

  pub seeks-none : seen₀ ≤ at₀ → Seeks seen₀ at₀
  seeks-none h = record { few = h; left = refl }

  module _ {seen at : ℕ} (s : Seeks seen at) where
    pub seeks-over : None ≡ item_at set at → First ≡ None
    seeks-over q = s.left ∙ items_over set at (λ (ps : List Placed). nth 0 (packs_of set seen ps) ≡ None) refl refl q

    module _ {i : Item} (q : Some i ≡ item_at set at) where
      pub seeks-found : {p : PackPlace} → pack_in set seen i.tag i.start i.end ≡ Some p → First ≡ Some p
      seeks-found e = s.left ∙ rw (items-read set at q, e)

      pub seeks-on : pack_in set seen i.tag i.start i.end ≡ None → Seeks (seen + tag_count i.tag) i.end
      seeks-on e =
          let t = item-tells set at q in
          record {
            few = omega (arith, t.0, t.1, s.few, one (is_pushed i.tag));
            left = s.left ∙ rw (items-read set at q, e, pushed-count i);
          }
