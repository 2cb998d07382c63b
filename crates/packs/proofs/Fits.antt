-- The first line, and the text of each pack of a set, fit the room for them.
-- Assumes nothing.
use mathlib.Core.Path.{◌≡◌, ap}
use mathlib.Core.List.{List, [], ◌∷◌, ◌++◌}
use Prim.Native.Nat.{ℕ, ◌+◌, ◌-◌, ◌*◌, ◌≤◌}
use native.Mathlib.Omega.{arith}
use lib.Dec.{eqb, leb, ltb}
use lib.ListN.{length, drop, length-append, length-take}
use Rattle.std.specs.Prelude.{None, Some, Option}
use Rattle.answers.specs.Table.{Answer, plains}
use Rattle.answers.proofs.Rules.{picked}
use Rattle.layout.proofs.Peek.{peek-size}
use Rattle.layout.proofs.RowByRow.{most-slots}
use Rattle.elements.proofs.Opened.{fit-within}
use Rattle.sets.specs.declared.item.Item.{Item}
use Rattle.sets.specs.declared.pack.PackPlace.{PackPlace}
use Rattle.sets.specs.Items.{Placed, items_from}
use Rattle.sets.specs.Packs.{pushed, packs_of, nth, next_pack}
use Rattle.sets.specs.Parts.{part_of}
use Rattle.sets.specs.Rules.{peek_rule, item_rules, set_rules, set_answer}
use Rattle.sets.proofs.Given.{among}
use Rattle.reader.specs.Rules.{read_answer}
use Rattle.text.specs.Text.{ascii, newline}
use Rattle.lines.specs.Lines.{numbers}
use Rattle.lines.proofs.Fits.{Few, numbers-length, length-plains, refused-length}
use Rattle.report.specs.Answer.{answer_lines}
use Rattle.report.proofs.Done.{answer-length}
use Rattle.report.proofs.Fits.{few-answer, few-pick}
use Rattle.packs.specs.Lines.{set_text, place_line, listed_tags, tags_text, bytes_of, pack_text}
use Rattle.packs.specs.Printed.{max_rows, room, is_too_big, first_line}

-- ---- the first line
-- whatever is answered of a set carries few numbers
few-peek : (q : Option ℕ) → Few (peek_rule q)
few-peek (Some n) = few-answer _ _ tt
few-peek None = few-answer _ _ tt

module _ (set : List ℕ) (entries : ℕ) where
  few-item : (seen at : ℕ) (i : Option Item) → Few (item_rules set entries seen at i)
  few-item seen at None = few-answer _ _ tt
  few-item seen at (Some i) = search (few-answer, few-pick, few-peek)

  few-items : (seen : ℕ) (ps : List Placed) → Few (set_rules set entries seen ps)
  few-items seen [] = few-answer _ _ tt
  few-items seen (p ∷ ps) =
      let q = few-items (seen + length (pushed p.item)) ps in
      let i = few-item seen p.at p.item in
      search few-pick

  few-set : Few (set_answer set entries)
  few-set = search (few-answer, few-pick, few-items)

set-length : (a : Answer) → Few a → length (set_text a) ≤ 91
set-length a f =
    picked (λ (t : List ℕ). length t ≤ 91) (eqb a.number 0) _ _
    (λ _. omega (arith, length-append (ascii "set") (numbers (plains a.carries)), numbers-length (plains a.carries), length-plains a.carries, f.most))
    (λ _. refused-length a f)

pub first_fits : (set : List ℕ) (entries : ℕ) → length (first_line set entries) ≤ room
first_fits set entries =
    picked (λ (t : List ℕ). length t ≤ room) (is_too_big set) _ _ (λ _. omega arith)
    (λ _. rw (length-append (set_text (set_answer set entries)) newline) (omega (arith, set-length (set_answer set entries) (few-set set entries))))

-- ---- the lines of a pack
place-length : (p : PackPlace) → length (place_line p) ≤ 47
place-length p = rw length-append (omega (arith, numbers-length (p.start ∷ p.end ∷ [])))

listed-length : (ts : List ℕ) → length (listed_tags ts) ≤ 2 + 21 * length ts
listed-length [] = omega arith
listed-length (t ∷ ts) = omega (arith, numbers-length (t ∷ ts))

part_length : (start end : ℕ) (l : List ℕ) → length (part_of start end l) ≤ end - start
part_length start end l =
    picked (λ (x : List ℕ). length x ≤ end - start) (ltb (length l) end) _ _ (λ _. omega arith)
    (λ _. rw (length-take (end - start) (drop start l)) (omega arith))

-- a pack whose size fits has no more rows than are read
few-rows : (bytes : List ℕ) (d c s : ℕ) → length (answer_lines bytes (read_answer bytes d c s)) ≤ 952540
few-rows bytes d c s = omega (arith, most-slots, answer-length max_rows (omega arith) bytes (λ f. (fit-within bytes f).rows) d c s)

module _ (set tags : List ℕ) where
  text-length : (p : PackPlace) → p.to ≤ p.from + max_rows → (d c s : ℕ) → length (pack_text set tags p (read_answer (bytes_of set p) d c s)) ≤ room
  text-length p h d c s =
      let ts = part_of p.from p.to tags in
      let a = answer_lines (bytes_of set p) (read_answer (bytes_of set p) d c s) in
      omega (
        arith,
        length-append (place_line p ++ tags_text ts ++ newline) a,
        length-append (place_line p ++ tags_text ts) newline,
        length-append (place_line p) (tags_text ts),
        length-append (ascii "tags") (listed_tags ts),
        place-length p,
        listed-length ts,
        part_length p.from p.to tags,
        few-rows (bytes_of set p) d c s,
      )

-- ---- the tags that a pack of a set refines
-- as many as it has rows, at most
pub record FewTags (p : PackPlace) : Type 0 where
  pub refined : p.to ≤ p.from + max_rows

module _ (set : List ℕ) where
  first-few : (seen : ℕ) (is : List Placed) {p : PackPlace} → nth 0 (packs_of set seen is) ≡ Some p → FewTags p
  first-few seen is h =
      let a = among set is seen 0 h in
      let f = a.found in
      let s = (peek-size (part_of a.start a.end set) f.n).0 f.size in
      let w = (fit-within (part_of a.start a.end set) (ap (λ (x : Answer). x.number) s.0)).rows in
      record { refined = omega (arith, f.to, f.from, s.1, w) }

  next-few : (b : PackPlace) {p : PackPlace} → next_pack set b ≡ Some p → FewTags p
  next-few b {p} =
      picked (λ (x : Option PackPlace). x ≡ Some p → FewTags p) (leb b.to b.end) (nth 0 (packs_of set b.to (items_from set b.end))) None
      (λ _. first-few b.to (items_from set b.end)) (λ _ h. let z : ◌≡◌ {A = ℕ} 0 1 = cc in absurd (omega arith))

  -- so the text of the pack behind another fits, whatever the tag list and the rooms for its numbers are
  pub next_fits : (tags : List ℕ) (b p : PackPlace) → next_pack set b ≡ Some p
      → (d c s : ℕ) → length (pack_text set tags p (read_answer (bytes_of set p) d c s)) ≤ room
  next_fits tags b p h d c s = text-length set tags p (next-few b h).refined d c s
