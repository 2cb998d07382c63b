-- The program's loop writes the text of each pack, and nothing else.
-- Assumes nothing.
use mathlib.Core.Path.{◌≡◌, refl, ap, ap₂, ◌∙◌}
use mathlib.Core.List.{List, [], ◌∷◌, ◌++◌}
use Prim.Native.Nat.{ℕ, suc, ◌+◌, ◌-◌, ◌≤◌}
use native.Mathlib.Omega.{arith}
use borrow.Author.Tests.{le-ltb}
use lib.Dec.{eqb}
use lib.ListN.{length, drop, length-append, length-drop}
use lib.Seq.{drop-append-le, take-append-le}
use Rattle.std.specs.Prelude.{None, Some, Option}
use Rattle.answers.specs.Lent.{over}
use Rattle.answers.proofs.Rules.{by_bool}
use Rattle.sets.specs.declared.item.Item.{Item}
use Rattle.sets.specs.declared.pack.PackPlace.{PackPlace}
use Rattle.sets.specs.Items.{Placed, items_of}
use Rattle.sets.specs.Packs.{pushed, tags_of, pack_of, before, packs_of, nth, next_pack}
use Rattle.sets.specs.Parts.{part_of}
use Rattle.sets.specs.Rules.{set_answer}
use Rattle.sets.proofs.Next.{pack-tells, next-nth}
use Rattle.packs.specs.Printed.{max_tags, is_too_big, first_line, printed_packs, tags_left, text_of, texts_of, behind_text, loop_text, none, printed, LoopPrints}

-- ---- from pack to pack
loop-texts : (set tags : List ℕ) (ps : List PackPlace) (b : PackPlace) → next_pack set b ≡ nth 0 ps
    → ((j : ℕ) (p : PackPlace) → nth j ps ≡ Some p → next_pack set p ≡ nth (suc j) ps)
    → loop_text (length ps) set tags b ≡ texts_of set tags ps
loop-texts set tags [] b e h = refl
loop-texts set tags (p ∷ ps) b e h =
    ap (λ (x : Option PackPlace). behind_text set tags x (λ q. loop_text (length ps) set tags q)) e
    ∙ ap (λ (t : List ℕ). text_of set tags p ++ t) (loop-texts set tags ps p (h 0 p refl) (λ j q k. h (suc j) q k))

-- ---- what stands behind the set's tags in the list is never read
module _ (set ts rest : List ℕ) where
  tags-front : (p : PackPlace) → p.from ≤ p.to → p.to ≤ length ts → part_of p.from p.to (ts ++ rest) ≡ part_of p.from p.to ts
  tags-front p f h =
      rw (le-ltb (length (ts ++ rest)) p.to (omega (arith, length-append ts rest)), le-ltb (length ts) p.to h)
      (rw (drop-append-le p.from ts rest (omega arith)) (take-append-le (p.to - p.from) (drop p.from ts) rest (simp length-drop (omega arith))))

  -- a pack's part ends where the tags seen before it do
  item-text : (seen : ℕ) (i : Option Item) (p : PackPlace) → pack_of set seen i ≡ Some p → seen ≤ length ts → text_of set (ts ++ rest) p ≡ text_of set ts p
  item-text seen None p h l = let z : ◌≡◌ {A = ℕ} 0 1 = cc in absurd (omega arith)
  item-text seen (Some i) p h l =
      let f = pack-tells set seen i.tag i.start i.end h in
      rw (tags-front p (omega (arith, f.to, f.from)) (omega (arith, f.to)))

  -- one, where there is one, before others
  more-texts : (x : Option PackPlace) (ps : List PackPlace) → ((p : PackPlace) → x ≡ Some p → text_of set (ts ++ rest) p ≡ text_of set ts p)
      → texts_of set (ts ++ rest) ps ≡ texts_of set ts ps → texts_of set (ts ++ rest) (before x ps) ≡ texts_of set ts (before x ps)
  more-texts None ps f e = e
  more-texts (Some p) ps f e = ap₂ ◌++◌ (f p refl) e

  same-texts : (seen : ℕ) (is : List Placed) → seen + length (tags_of is) ≤ length ts
      → texts_of set (ts ++ rest) (packs_of set seen is) ≡ texts_of set ts (packs_of set seen is)
  same-texts seen [] h = refl
  same-texts seen (i ∷ is) h =
      let l = length-append (pushed i.item) (tags_of is) in
      more-texts (pack_of set seen i.item) (packs_of set (seen + length (pushed i.item)) is)
      (λ p e. item-text seen i.item p e (omega arith))
      (same-texts (seen + length (pushed i.item)) is (omega (arith, l)))

-- ---- all of it
every-text : (set tags : List ℕ) → length tags ≡ max_tags
    → loop_text (length (printed_packs set max_tags)) set (tags_left set tags) none ≡ texts_of set (tags_of (items_of set)) (printed_packs set max_tags)
every-text set tags long =
    let all = packs_of set 0 (items_of set) in
    let ts = tags_of (items_of set) in
    by_bool (is_too_big set) (λ t. rw t)
    (λ f. by_bool (eqb (set_answer set max_tags).number 0)
    (λ z. rw (f, long, z)
    (loop-texts set (over ts tags) all none refl (λ j p k. next-nth set j all 0 0 (omega arith) refl k)
    ∙ same-texts set ts (drop (length ts) tags) 0 (items_of set) (omega arith)))
    (λ z. rw (f, long, z)))

pub loop-prints : LoopPrints
unfolding printed
loop-prints set tags long = ap (λ (t : List ℕ). first_line set max_tags ++ t) (every-text set tags long)
