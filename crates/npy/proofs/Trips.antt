-- Export and then import gives the matrix back bit for bit, import and then export the file.
-- Assumes nothing.
use mathlib.Core.Path.{◌≡◌, refl, sym, ap, ◌∙◌}
use mathlib.Core.List.{List, [], ◌∷◌, ◌++◌}
use mathlib.Core.Logic.{by_cases}
use Prim.Native.Nat.{ℕ, min, max, ◌+◌, ◌-◌, ◌*◌, ◌≤◌, ◌<◌}
use native.Mathlib.Decide.{dec_lt}
use native.Mathlib.Nat.{mul_assoc}
use native.Mathlib.Omega.{arith}
use borrow.Author.Tests.{eqb-true, eqb-false, eq-eqb, le-ltb}
use lib.Dec.{eqb, ltb}
use lib.ListN.{length, take, drop, length-take, length-drop, take-append-drop, get_or-eq_default}
use lib.Seq.{take_all, take_at, get_or-take, get_or-drop, ext_get_or}
use Rattle.answers.specs.Table.{answer, wholes, passes, next}
use Rattle.answers.proofs.Joined.{joined_same}
use Rattle.answers.proofs.Lent.{length-tab, get_or-tab}
use Rattle.answers.proofs.Next.{next-zero, unheld}
use Rattle.answers.proofs.Rules.{picked, by_bool}
use Rattle.numbers.specs.Digits.{Below}
use Rattle.numbers.specs.Words.{low_bytes_of}
use Rattle.numbers.proofs.Low.{low-bytes-of-word}
use Rattle.layout.specs.Size.{max_rows}
use Rattle.layout.specs.Triangle.{slots_of, slot_of, IsPair}
use Rattle.layout.proofs.RowByRow.{row-by-row}
use Rattle.rules.specs.Rules.{rooms_rule}
use Rattle.elements.specs.Elements.{part}
use Rattle.matrix.specs.Lookup.{number, cell_answer}
use Rattle.matrix.proofs.Cells.{entry-held, diagonal as diagonal-cell, pair as pair-cell}
use Rattle.npy_header.specs.Header.{header_length, header, max_size, size_in, break_in}
use Rattle.npy_header.specs.Rules.{broken_at, header_rule}
use Rattle.npy_export.specs.File.{body_length, file_length, entry_of, entry_bytes, row_bytes, body_of, file_of}
use Rattle.npy.specs.Matrix.{place_of, entry_in, deviations_in, correlations_in}
use Rattle.npy.specs.Rules.{pair_rule, row_rules, pair_rules, size_rules, file_rules, import_rules, import_answer}
use Rattle.npy.specs.Trips.{IsMatrix, pack_for, ExportImport, Shown, ImportExport}
use Rattle.answers.proofs.Each.{each_all, each-passes}
use Rattle.npy_header.proofs.Headers.{length-header}
use Rattle.npy_header.proofs.Breaks.{header_read}
use Rattle.npy_export.proofs.Body.{length-file, entry-left, entry-diagonal, entry-right}
use Rattle.npy.proofs.Held.{Held, file-held}
use Rattle.npy.proofs.Places.{place-fits}
use Rattle.npy.proofs.Matrix.{length-correlations}
use Rattle.npy.proofs.Entries.{joined-parts, entry-back, slot-in}

-- ---- the header
-- of a file that starts with it
header-found : (n : ℕ) (rest : List ℕ) → n ≤ max_size → (header_rule (header n ++ rest) ≡ passes) × (size_in (header n ++ rest) ≡ n)
header-found n rest h =
    ((header_read (header n ++ rest)).whole n).1 (record { small = h; same = take_at (header n) rest header_length (length-header n h) })

-- and of one that passes
header-whole : (file : List ℕ) → (header_rule file).number ≡ 0 → take header_length file ≡ header (size_in file)
header-whole file z = (((header_read file).whole (size_in file)).0 (rule-passes, refl)).same
  where
    rule-passes : header_rule file ≡ passes
    rule-passes = rw (unheld (ltb (break_in file) header_length) (broken_at (break_in file)) refl z)

-- ---- from a matrix
module _ (n : ℕ) (ds cs : List ℕ) (m : IsMatrix n ds cs) where
  abbrev file : List ℕ
  file = file_of n ds cs

  small : n ≤ max_size
  small = omega (arith, m.few)

  entry : (i j : ℕ) → i < n → j < n → entry_in file n i j ≡ entry_of n ds cs i j
  entry = entry-back n ds cs small m.deviation-bits m.correlation-bits

  size : size_in file ≡ n
  size = (header-found n (body_of n ds cs) small).1

  long : length file ≡ file_length n
  long = length-file n ds cs small

  pub shown : Shown n ds cs
  shown =
      record {
        diagonal = λ i h. entry i i h h ∙ entry-diagonal n ds cs i;
        pair = λ i j p. entry i j (omega arith) p.1 ∙ entry-right n ds cs i j p.0;
        turned = λ i j p. entry j i p.1 (omega arith) ∙ entry-left n ds cs j i p.0;
        looked-up = λ i j h k. cell i j h k ∙ ap number (sym (entry i j h k));
      }
    where
      cell : (i j : ℕ) → i < n → j < n → cell_answer (pack_for n ds cs) ds cs i j ≡ number (entry_of n ds cs i j)
      cell i j h k = by_bool (eqb i j)
          (λ t.
          let e = eqb-true i j t in
          diagonal-cell (pack_for n ds cs) ds cs i j m.few h k e ∙ entry-held ds n i i j h (omega (arith, m.deviations)) ∙ rw t)
          (λ f.
          let d = eqb-false i j f in
          let b = (row-by-row n).below (min i j) (max i j) (omega arith, omega arith) in
          pair-cell (pack_for n ds cs) ds cs i j m.few h k d ∙ entry-held cs (slots_of n) (slot_of n (min i j) (max i j)) i j b (omega (arith, m.correlations)) ∙ rw f)

  -- every pair agrees
  pairs : pair_rules file n ≡ passes
  unfolding pair_rules
  pairs =
      each_all (row_rules file n) n (λ i h. each_all (λ k. pair_rule file n i (i + 1 + k)) (n - 1 - i) (λ k l.
      let j = i + 1 + k in
      let p = shown.pair i j (omega arith, omega arith) in
      let q = shown.turned i j (omega arith, omega arith) in
      rw (eq-eqb (entry_in file n i j) (entry_in file n j i) (p ∙ sym q))))

  imported : (d c s : ℕ) → n ≤ d → slots_of n ≤ c → slots_of n ≤ s → import_answer file d c s ≡ answer 0 (wholes (n ∷ n ∷ slots_of n ∷ []))
  imported d c s hd hc hs =
      rw (
        (header-found n (body_of n ds cs) small).0,
        size,
        le-ltb max_rows n m.few,
        eq-eqb (body_length n) (length file - header_length) (omega (arith, long)),
        pairs,
        le-ltb d n hd,
        le-ltb c (slots_of n) hc,
        le-ltb s (slots_of n) hs,
      )

  -- each slot comes back
  slots-back : correlations_in file n ≡ cs
  slots-back = ext_get_or 0 (correlations_in file n) cs (length-correlations file n ∙ sym m.correlations) (λ s h.
      let o = (row-by-row n).onto s (rw (length-correlations file n) at h) in
      rw (← o.3) (slot-in file n o.0 o.1 o.2 ∙ shown.pair o.0 o.1 o.2))

  rows_back : deviations_in file n ≡ ds
  rows_back = ext_get_or 0 (deviations_in file n) ds (length-tab n (λ i. entry_in file n i i) ∙ sym m.deviations) (λ i h.
      let l = rw (length-tab n (λ i. entry_in file n i i)) at h in
      get_or-tab n (λ i. entry_in file n i i) i l ∙ shown.diagonal i l)

  pub export-import : ExportImport n ds cs
  export-import =
      record {
        exports = λ room h. rw (
          le-ltb max_rows n m.few,
          eq-eqb n (length ds) (sym m.deviations),
          eq-eqb (slots_of n) (length cs) (sym m.correlations),
          le-ltb room (file_length n) h,
          long,
        );
        imports = imported;
        deviations = rw size rows_back;
        correlations = rw size slots-back;
        states = rw (size, m.correlations);
      }

-- ---- from a file
-- a part of bytes is bytes
part-below : (l : List ℕ) → Below 256 l → (at k : ℕ) → Below 256 (part l at k)
part-below l b at k i =
    by_cases (dec_lt i k) (λ h. rw (get_or-take k (drop at l) i 0 h, get_or-drop) (b (at + i)))
    (λ h. rw (get_or-eq_default (take k (drop at l)) 0 {n = i} (rw length-take (omega arith))) (omega arith))

module _ (file : List ℕ) (b : Below 256 file) (d c s : ℕ) (done : (import_answer file d c s).number ≡ 0) where
  abbrev n : ℕ
  n = size_in file

  abbrev ds : List ℕ
  ds = deviations_in file n

  abbrev cs : List ℕ
  cs = correlations_in file n

  z : (file_rules file).number ≡ 0
  z =
      let rooms = rooms_rule n (slots_of n) d c s in
      (next-zero (file_rules file) rooms (next-zero (import_rules file d c s) (answer 0 (wholes (n ∷ n ∷ slots_of n ∷ []))) done).0).0

  held : Held file n
  held = file-held file z

  -- the two entries of a pair agree
  same-pair : (i j : ℕ) → IsPair n i j → entry_in file n i j ≡ entry_in file n j i
  unfolding pair_rules
  same-pair i j p =
      let s = (next-zero (header_rule file) (next (size_rules file n) (pair_rules file n)) z).1 in
      let q = (next-zero (size_rules file n) (pair_rules file n) s).1 in
      let r = each-passes (row_rules file n) n i (omega arith) q in
      let k = j - i - 1 in
      let e : i + 1 + k ≡ j = omega arith in
      let t = each-passes (λ k. pair_rule file n i (i + 1 + k)) (n - 1 - i) k (omega arith) r in
      pair_same i j (rw e at t)
    where
      pair_same : (i j : ℕ) → (pair_rule file n i j).number ≡ 0 → entry_in file n i j ≡ entry_in file n j i
      pair_same i j =
          picked (λ a. a.number ≡ 0 → entry_in file n i j ≡ entry_in file n j i) (eqb (entry_in file n i j) (entry_in file n j i)) passes _
          (λ t _. eqb-true (entry_in file n i j) (entry_in file n j i) t) (λ _ y. absurd (omega arith))

  -- an entry of what was imported is the file's
  entry-same : (i j : ℕ) → i < n → j < n → entry_of n ds cs i j ≡ entry_in file n i j
  entry-same i j h k = by_cases (dec_lt i j)
      (λ l. entry-right n ds cs i j l ∙ slot-in file n i j (l, k))
      (λ l. by_cases (dec_lt j i)
      (λ m. entry-left n ds cs i j m ∙ slot-in file n j i (m, h) ∙ same-pair j i (m, h))
      (λ m. let e : i ≡ j = omega arith in rw (← e) (entry-diagonal n ds cs i ∙ get_or-tab n (λ i. entry_in file n i i) i h)))

  entry-part-same : (i j : ℕ) → i < n → j < n → entry_bytes n ds cs i j ≡ part file (place_of n i j) 8
  entry-part-same i j h k =
      let l = part file (place_of n i j) 8 in
      let long : length l ≡ 8 = simp (length-take, length-drop) (omega (arith, held.whole, place-fits n i j h k)) in
      ap (λ (x : ℕ). low_bytes_of 8 x) (entry-same i j h k) ∙ rw long at (low-bytes-of-word l (omega arith) (part-below file b (place_of n i j) 8))

  row_same : (i : ℕ) → i < n → row_bytes n ds cs i ≡ part file (header_length + i * (n * 8)) (n * 8)
  row_same i h =
      let at = header_length + i * (n * 8) in
      joined_same {f = entry_bytes n ds cs i} {g = λ j. part file (at + j * 8) 8} n (λ j k.
      let e : place_of n i j ≡ at + j * 8 = omega (arith, mul_assoc i n 8) in
      rw e at (entry-part-same i j h k))
      ∙ joined-parts file at 8 n

  body_same : body_of n ds cs ≡ drop header_length file
  unfolding body_of
  body_same =
      joined_same {f = row_bytes n ds cs} {g = λ i. part file (header_length + i * (n * 8)) (n * 8)} n row_same
      ∙ joined-parts file header_length (n * 8) n
      ∙ take_all (n * (n * 8)) (drop header_length file) (rw length-drop (omega (arith, held.whole, mul_assoc n n 8)))

  file-same : file_of n ds cs ≡ file
  file-same =
      rw (body_same, ← (header-whole file (next-zero (header_rule file) (next (size_rules file n) (pair_rules file n)) z).0))
      (take-append-drop header_length file)

  pub import-export : ImportExport file
  import-export =
      record {
        exports = rw (
          le-ltb max_rows n held.few,
          eq-eqb n (length ds) (sym (length-tab n (λ i. entry_in file n i i))),
          eq-eqb (slots_of n) (length cs) (sym (length-correlations file n)),
          le-ltb (length file) (file_length n) (omega (arith, held.whole)),
          held.whole,
        );
        same = file-same;
      }
