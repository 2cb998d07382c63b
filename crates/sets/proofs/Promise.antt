-- What is promised of a set that is taken, and of one that is not.
-- Assumes nothing.
use mathlib.Core.Path.{◌≡◌, refl, sym, ap, ◌∙◌}
use mathlib.Core.List.{List, [], ◌∷◌, ◌++◌, append_assoc}
use Prim.Native.Nat.{ℕ, zero, suc, ◌-◌, ◌≤◌, ◌<◌}
use native.Mathlib.Nat.{zero-add}
use native.Mathlib.Omega.{arith}
use lib.Dec.{ltb}
use lib.ListN.{length, take, drop, length-append, length-drop}
use borrow.Author.Tests.{ne_eqb, ltb-true, ltb-false}
use Rattle.std.specs.Prelude.{None, Some}
use Rattle.answers.specs.Lent.{over}
use Rattle.answers.proofs.Next.{next-zero}
use Rattle.answers.proofs.Rules.{by_bool}
use Rattle.numbers.specs.BerOid.{oid_read}
use Rattle.layout.specs.Size.{peeked}
use Rattle.layout.specs.Header.{said_size}
use Rattle.layout.proofs.Peek.{peek-size}
use Rattle.sets.specs.declared.pack.PackPlace.{PackPlace}
use Rattle.sets.specs.Tags.{pack_tag}
use Rattle.sets.specs.Parts.{part_of}
use Rattle.sets.specs.Items.{read, Placed, placed, items_of}
use Rattle.sets.specs.Packs.{pushed, tags_of, packs_of, nth}
use Rattle.sets.specs.Rules.{set_rules, counts, set_answer}
use Rattle.sets.specs.Handed.{taken_packs, pack_at, bytes_by, tags_by}
use Rattle.sets.specs.Taken.{last_of, HandedBack, Taken, NotTaken, Sets}
use Rattle.sets.proofs.Next.{next-nth}
use Rattle.sets.proofs.Taken.{taken-packs, tags-held}
use Rattle.sets.proofs.Given.{Among, among, part-is, part-last}
use Rattle.sets.proofs.Joined.{joins, join-within}

-- a pack of so many there is, and no further one
nth-some : (k : ℕ) (ps : List PackPlace) → k < length ps → (p : PackPlace) × (nth k ps ≡ Some p)
nth-some k [] h = absurd (omega arith)
nth-some zero (p ∷ ps) h = (p, refl)
nth-some (suc k) (p ∷ ps) h = nth-some k ps (omega arith)

nth_past : (k : ℕ) (ps : List PackPlace) → length ps ≤ k → nth k ps ≡ None
nth_past k [] h = refl
nth_past zero (p ∷ ps) h = absurd (omega arith)
nth_past (suc k) (p ∷ ps) h = nth_past k ps (omega arith)

tags-append : (ps qs : List Placed) → tags_of (ps ++ qs) ≡ tags_of ps ++ tags_of qs
tags-append [] qs = refl
tags-append (p ∷ ps) qs = rw (tags-append ps qs) (sym (append_assoc (pushed p.item) (tags_of ps) (tags_of qs)))

peek-some : (n : ℕ) → peeked [] ≡ Some n → ⊥
unfolding oid_read
peek-some n e = let o : ◌≡◌ {A = ℕ} 0 1 = cc in omega arith

module _ (set lent : List ℕ) (z : (set_answer set (length lent)).number ≡ 0) where
  abbrev items : List Placed
  items = items_of set

  abbrev all : List PackPlace
  all = packs_of set 0 items

  abbrev left : List ℕ
  left = over (tags_of items) lent

  room : length (tags_of items) ≤ length lent
  room = tags-held set (length lent) z

  -- the call leaves as many entries as were lent
  long : length left ≡ length lent
  long = omega (arith, length-append (tags_of items) (drop (length (tags_of items)) lent), length-drop (length (tags_of items)) lent, room)

  at-taken : (k : ℕ) → pack_at set (length lent) k ≡ nth k all
  at-taken k = ap (nth k) (taken-packs set (length lent) z)

  at_left : (k : ℕ) → pack_at set (length left) k ≡ nth k all
  at_left k = rw long (at-taken k)

  rules : (set_rules set (length lent) 0 items).number ≡ 0
  rules = (next-zero (set_rules set (length lent) 0 items) (counts (length all) (length (tags_of items))) z).0

  module _ (k : ℕ) (p : PackPlace) (e : nth k all ≡ Some p) where
    a : Among set 0 items k p
    a = among set items 0 k e

    within : a.end ≤ length set
    within = join-within a.ahead a.rest 0 (length set) a.at (read pack_tag a.start a.end) (rw a.item at (joins set (length lent) rules))

    abbrev value : List ℕ
    value = take (a.end - a.start) (drop a.start set)

    part : part_of a.start a.end set ≡ value
    part = part-is a.start a.end set within

    size : a.found.n ≡ said_size value
    size = ((peek-size (part_of a.start a.end set) a.found.n).0 a.found.size).1 ∙ ap said_size part

    -- peek passes no empty pack
    filled : a.start < a.end
    filled =
        by_bool (ltb a.start a.end) (λ t. ltb-true a.start a.end t)
        (λ f.
        let g = ltb-false a.start a.end f in
        let none : a.end - a.start ≡ 0 = omega arith in
        let e : peeked [] ≡ Some a.found.n = sym (ap peeked (part ∙ rw none)) ∙ a.found.size in
        absurd (peek-some a.found.n e))

    -- the tags ahead of it stand first
    abbrev ahead : List ℕ
    ahead = tags_of a.ahead

    abbrev behind : List ℕ
    behind = tags_of (placed a.at (Some (read pack_tag a.start a.end)) ∷ a.rest)

    front : left ≡ ahead ++ (behind ++ drop (length (tags_of items)) lent)
    front =
        ap (λ (l : List ℕ). l ++ drop (length (tags_of items)) lent) (ap tags_of a.item ∙ tags-append a.ahead _)
        ∙ append_assoc ahead behind (drop (length (tags_of items)) lent)

    refines : tags_by left (Some p) ≡ last_of (said_size value) ahead
    refines =
        let none = zero-add (length ahead) in
        let n = a.found.n in
        let f : p.from ≡ length ahead - n = a.found.from ∙ ap (λ (m : ℕ). m - n) none in
        let t : p.to ≡ length ahead = a.found.to ∙ none in
        (λ i. part_of (f i) (t i) (front i))
        ∙ part-last n ahead (behind ++ drop (length (tags_of items)) lent)
        ∙ ap (λ (m : ℕ). last_of m ahead) size

    handed : HandedBack set lent k
    handed =
        record {
          ahead = a.ahead;
          rest = a.rest;
          at = a.at;
          start = a.start;
          end = a.end;
          item = a.item;
          kth = a.kth;
          filled = filled;
          value = ap (bytes_by set) (at-taken k ∙ e) ∙ (λ i. part_of (a.found.starts i) (a.found.ends i) set) ∙ part;
          tags = ap (tags_by left) (at_left k ∙ e) ∙ refines;
        }

  pub taken : Taken set lent
  taken =
      record {
        joined = joins set (length lent) rules;
        room = room;
        packs = λ k h. let s = nth-some k all h in handed k s.0 s.1;
        none = λ k h. let e = nth_past k all h in (ap (bytes_by set) (at-taken k ∙ e), ap (tags_by left) (at_left k ∙ e));
        first = sym (at-taken 0);
        onward = λ k p e. next-nth set k all 0 0 (omega arith) refl (sym (at-taken k) ∙ e) ∙ sym (at-taken (suc k));
      }

pub not_taken : (set lent : List ℕ) → ((set_answer set (length lent)).number ≡ 0 → ⊥) → NotTaken set lent
not_taken set lent n =
    let e : taken_packs set (length lent) ≡ [] = rw (ne_eqb (set_answer set (length lent)).number 0 n) in
    record { bytes = λ k. ap (λ (ps : List PackPlace). bytes_by set (nth k ps)) e; tags = λ k. ap (λ (ps : List PackPlace). tags_by lent (nth k ps)) e }

pub sets : Sets
sets set lent = (taken set lent, not_taken set lent)
