-- How many packs a set that was read has.
-- Assumes nothing.
use mathlib.Core.Path.{◌≡◌, sym, ap, ◌∙◌}
use mathlib.Core.Bool.{false}
use mathlib.Core.List.{List, ◌++◌}
use Prim.Native.Nat.{ℕ}
use lib.ListN.{length}
use Rattle.std.specs.Prelude.{Ok, Err, Result}
use Rattle.answers.specs.Table.{Answer}
use Rattle.answers.specs.declared.Refusal.{Refusal}
use Rattle.answers.proofs.Next.{next-zero, next-passed}
use Rattle.sets.specs.declared.set.SetCounts.{SetCounts}
use Rattle.sets.specs.Items.{items_of}
use Rattle.sets.specs.Packs.{tags_of, packs_of}
use Rattle.sets.specs.Rules.{set_rules, counts, set_answer, set_listed, left_tags}
use Rattle.sets.specs.Handed.{taken_packs}
use Rattle.sets.proofs.Taken.{taken-packs, refused-packs}
use Rattle.text.specs.Text.{newline}
use Rattle.text.specs.declared.page.Page.{Page}
use Rattle.text.specs.Page.{Adds}
use Rattle.packs.specs.Lines.{set_text}
use Rattle.packs.specs.Printed.{is_too_big, first_line, pack_count, printed_packs, tags_left}

module _ (set : List ℕ) (room : ℕ) where
  -- by the answer that is done
  counted : (packs tags : ℕ) → counts packs tags ≡ set_answer set room → packs ≡ length (taken_packs set room)
  counted packs tags e =
      let n = counts (length (packs_of set 0 (items_of set))) (length (tags_of (items_of set))) in
      let z : (set_answer set room).number ≡ 0 = sym (ap (λ (a : Answer). a.number) e) in
      let d = e ∙ next-passed (set_rules set room 0 (items_of set)) n (next-zero (set_rules set room 0 (items_of set)) n z).0 in
      let c = ap (λ (a : Answer). a.carries) d in
      let p : packs ≡ length (packs_of set 0 (items_of set)) = cc in
      rw (taken-packs set room z) p

  pub pack-count : (r : Result SetCounts Refusal) → set_listed r ≡ set_answer set room → pack_count r ≡ length (taken_packs set room)
  pack-count (Ok c) e = counted c.packs c.tags e
  pack-count (Err f) e = rw (refused-packs set room f e)

-- what is answered of a set that is not too big
pub read_first : (set tags : List ℕ) → is_too_big set ≡ false → (r : Result SetCounts Refusal) → set_listed r ≡ set_answer set (length tags)
    → {tags' : List ℕ} → tags' ≡ left_tags (set_listed r) set tags → {n : ℕ} → n ≡ pack_count r
    → {page page' : Page} → Adds (set_text (set_listed r) ++ newline) page page'
    → (n ≡ length (printed_packs set (length tags))) × Adds (first_line set (length tags)) page page' × (tags' ≡ tags_left set tags)
read_first set tags f r e t c p =
    rw f (c ∙ pack-count set (length tags) r e, rw e at p, rw e at t)
