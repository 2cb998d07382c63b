-- Pack k is an item of tag 102, and its part of the tag list ends with the tags pushed ahead of it.
-- Assumes nothing.
use mathlib.Core.Path.{◌≡◌, refl, ap, ◌∙◌}
use mathlib.Core.List.{List, [], ◌∷◌, ◌++◌}
use Prim.Native.Nat.{ℕ, zero, suc, ◌+◌, ◌-◌, ◌≤◌}
use native.Mathlib.Nat.{add-zero}
use native.Mathlib.Omega.{arith}
use lib.ListN.{length, take, drop, length-append, length-drop}
use lib.Seq.{drop-append-le, take-append_seam}
use borrow.Author.Tests.{le-ltb}
use Rattle.std.specs.Prelude.{None, Some, Option}
use Rattle.sets.specs.declared.item.Item.{Item}
use Rattle.sets.specs.declared.pack.PackPlace.{PackPlace}
use Rattle.sets.specs.Tags.{pack_tag}
use Rattle.sets.specs.Parts.{part_of}
use Rattle.sets.specs.Items.{read, Placed, placed}
use Rattle.sets.specs.Packs.{pushed, tags_of, pack_of, before, packs_of, nth}
use Rattle.sets.specs.Taken.{last_of}
use Rattle.sets.proofs.Next.{Found, pack-tells}

-- ---- a pack among items
pub record Among (set : List ℕ) (seen : ℕ) (ps : List Placed) (k : ℕ) (p : PackPlace) : Type 0 where
  pub ahead : List Placed
  pub rest : List Placed
  pub at : ℕ
  pub start : ℕ
  pub end : ℕ
  pub item : ps ≡ ahead ++ (placed at (Some (read pack_tag start end)) ∷ rest)
  pub kth : length (packs_of set seen ahead) ≡ k
  pub found : Found set (seen + length (tags_of ahead)) pack_tag start end p

module _ (set : List ℕ) (seen : ℕ) (x : Placed) (xs : List Placed) where
  -- it is the first item
  among_first : {p : PackPlace} → pack_of set seen x.item ≡ Some p → Among set seen (x ∷ xs) 0 p
  among_first {p} e = go x.item refl e
    where
      go : (i : Option Item) → x.item ≡ i → pack_of set seen i ≡ Some p → Among set seen (x ∷ xs) 0 p
      go None q e = let o : ◌≡◌ {A = ℕ} 0 1 = cc in absurd (omega arith)
      go (Some i) q e =
          let f = pack-tells set seen i.tag i.start i.end e in
          record {
            ahead = [];
            rest = xs;
            at = x.at;
            start = i.start;
            end = i.end;
            item = ap (λ (o : Option Item). placed x.at o ∷ xs) (q ∙ ap (λ (t : ℕ). Some (read t i.start i.end)) f.pack);
            kth = refl;
            found = rw (add-zero seen, ← f.pack) f;
          }

  -- it comes behind it
  among-behind : {k j : ℕ} {p : PackPlace} (a : Among set (seen + length (pushed x.item)) xs k p)
      → length (packs_of set seen (x ∷ a.ahead)) ≡ j → Among set seen (x ∷ xs) j p
  among-behind a n =
      let e : seen + length (pushed x.item ++ tags_of a.ahead) ≡ seen + length (pushed x.item) + length (tags_of a.ahead) =
      omega (arith, length-append (pushed x.item) (tags_of a.ahead)) in
      record {
        ahead = x ∷ a.ahead;
        rest = a.rest;
        at = a.at;
        start = a.start;
        end = a.end;
        item = ap (λ (ps : List Placed). x ∷ ps) a.item;
        kth = n;
        found = rw e a.found;
      }

pub among : (set : List ℕ) (ps : List Placed) (seen k : ℕ) {p : PackPlace} → nth k (packs_of set seen ps) ≡ Some p → Among set seen ps k p
among set [] seen k e = let o : ◌≡◌ {A = ℕ} 0 1 = cc in absurd (omega arith)
among set (x ∷ xs) seen k {p} e = go (pack_of set seen x.item) refl k e (λ j. among set xs (seen + length (pushed x.item)) j)
  where
    go : (y : Option PackPlace) → pack_of set seen x.item ≡ y → (k : ℕ) → nth k (before y (packs_of set (seen + length (pushed x.item)) xs)) ≡ Some p
        → ((j : ℕ) → nth j (packs_of set (seen + length (pushed x.item)) xs) ≡ Some p → Among set (seen + length (pushed x.item)) xs j p)
        → Among set seen (x ∷ xs) k p
    go None q k e later = let a = later k e in among-behind set seen x xs a (rw q a.kth)
    go (Some r) q zero e later = among_first set seen x xs (q ∙ e)
    go (Some r) q (suc k) e later = let a = later k e in among-behind set seen x xs a (rw q (ap suc a.kth))

-- ---- its parts
-- a part that ends within the list
pub part-is : (start end : ℕ) (l : List ℕ) → end ≤ length l → part_of start end l ≡ take (end - start) (drop start l)
part-is start end l h = rw (le-ltb (length l) end h)

-- the part that ends with a front is the front's last
pub part-last : (n : ℕ) (front l : List ℕ) → part_of (length front - n) (length front) (front ++ l) ≡ last_of n front
part-last n front l =
    let a = length front - n in
    rw (
      le-ltb (length (front ++ l)) (length front) (omega (arith, length-append front l)),
      drop-append-le a front l (omega arith),
      ← (length-drop a front),
    ) (take-append_seam (drop a front) l)
