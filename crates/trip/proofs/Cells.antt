-- Looking up what the reader left: each cell gives the number that the pack's bytes hold for it.
-- Assumes nothing.
use mathlib.Core.Path.{◌≡◌, refl, sym, ap, ◌∙◌}
use mathlib.Core.List.{List}
use Prim.Native.Nat.{ℕ, min, max, ◌-◌, ◌≤◌, ◌<◌}
use native.Mathlib.Omega.{arith}
use lib.ListN.{length}
use borrow.Author.Tests.{eq-eqb, ne_eqb}
use Rattle.std.specs.Prelude.{Option, None}
use Rattle.answers.specs.Lent.{over, tab}
use Rattle.answers.specs.Table.{Answer}
use Rattle.answers.proofs.Next.{next-zero}
use Rattle.layout.specs.Header.{said_size, control_of, body_at, head_rules}
use Rattle.layout.specs.Size.{max_rows, size_rules}
use Rattle.layout.specs.declared.pack.SdccFlp.{SdccFlp}
use Rattle.layout.specs.Triangle.{slot_of, slots_of, IsPair}
use Rattle.layout.proofs.Fits.{fits-tells}
use Rattle.layout.proofs.Peek.{fit-answers}
use Rattle.layout.proofs.RowByRow.{row-by-row}
use Rattle.elements.specs.Elements.{head_of, deviation_count, deviations, correlations}
use Rattle.elements.specs.Listed.{pack_of}
use Rattle.reader.specs.Listed.{pack_answer}
use Rattle.reader.specs.Rules.{read_answer_in, read_answer}
use Rattle.deviations.specs.declared.form.DeviationRange.{DeviationRange}
use Rattle.reader.proofs.Peeked.{read_done, read_fits}
use Rattle.reader.proofs.OneAnswer.{pack_one}
use Rattle.matrix.specs.Lookup.{number, entry_answer}
use Rattle.matrix.proofs.Cells.{entry-held, entry-none, no-row, no-column, diagonal, pair}
use Rattle.trip.proofs.Stood.{over-long, over-at}
use Rattle.trip.specs.Cells.{deviation_read, slot_read, cell_read, CellsRead}

-- an entry that was stored, over what was there
stored : (n : ℕ) (f : ℕ → ℕ) (lent : List ℕ) (k i j : ℕ) → k < n → entry_answer (over (tab n f) lent) n k i j ≡ number (f k)
stored n f lent k i j h =
    let l : k < length (over (tab n f) lent) = omega (arith, over-long n f (tab n f) lent refl) in
    entry-held (over (tab n f) lent) n k i j h l ∙ ap number (over-at n f (tab n f) lent refl k h)

module _ (bytes ds₀ cs₀ : List ℕ) (rows : said_size bytes ≤ max_rows) where
  -- N, and what the reader left
  abbrev n : ℕ
  n = said_size bytes

  abbrev ds : List ℕ
  ds = over (deviations bytes (head_of bytes)) ds₀

  abbrev cs : List ℕ
  cs = over (correlations bytes (head_of bytes)) cs₀

  -- two rows that differ, the smaller and the larger of them known
  pair_read : (i j a b : ℕ) → IsPair n a b → min i j ≡ a → max i j ≡ b → cell_read bytes ds₀ cs₀ i j ≡ number (slot_read bytes (slot_of n a b))
  pair_read i j a b h low high =
      pair (pack_of (head_of bytes)) ds cs i j rows (omega arith) (omega arith) (λ e. omega arith)
      ∙ rw (low, high) (stored (slots_of n) (slot_read bytes) cs₀ (slot_of n a b) i j ((row-by-row n).below a b h))

  -- a row with itself
  on-diagonal : (i : ℕ) → i < n → cell_read bytes ds₀ cs₀ i i ≡ entry_answer ds (deviation_count (head_of bytes)) i i i
  on-diagonal i h = diagonal (pack_of (head_of bytes)) ds cs i i rows h h refl

  -- every cell of a matrix within the limit
  cells : CellsRead bytes ds₀ cs₀
  cells =
      record {
        pair = λ i j h. pair_read i j i j h (omega arith) (omega arith);
        turned = λ i j h. pair_read j i i j h (omega arith) (omega arith);
        diagonal =
            λ i h some.
            on-diagonal i h ∙ stored (deviation_count (head_of bytes)) (deviation_read bytes) ds₀ i i i (rw (ne_eqb (control_of bytes).slen 0 some) h);
        none = λ i h e. on-diagonal i h ∙ entry-none ds (deviation_count (head_of bytes)) i i i (rw (eq-eqb (control_of bytes).slen 0 e) (omega arith));
        no_row = λ i j h. no-row (pack_of (head_of bytes)) ds cs i j h;
        no_column = λ i j h. no-column (pack_of (head_of bytes)) ds cs i j h;
      }

-- a pack that was read has no more rows than the limit
rows-read : (bytes : List ℕ) (d c s : ℕ) → (read_answer bytes d c s).number ≡ 0 → said_size bytes ≤ max_rows
rows-read bytes d c s e =
    let R = length bytes - body_at bytes in
    let size = (next-zero (head_rules bytes) (size_rules (said_size bytes) R (control_of bytes)) (rw (fit-answers bytes) at (read_fits None bytes d c s e))).1 in
    (fits-tells (said_size bytes) R (control_of bytes) size).rows

-- every cell of a pack that was read
pub cells-read : (bytes ds₀ cs₀ ss₀ : List ℕ) → (read_answer bytes (length ds₀) (length cs₀) (length ss₀)).number ≡ 0 → CellsRead bytes ds₀ cs₀
cells-read bytes ds₀ cs₀ ss₀ e = cells bytes ds₀ cs₀ (rows-read bytes (length ds₀) (length cs₀) (length ss₀) e)

-- the pack that the reader gives, over a range or none, is the one looked up in
pub pack-read : (range : Option DeviationRange) (bytes : List ℕ) (d c s : ℕ) (pack : SdccFlp) → pack_answer pack ≡ read_answer_in range bytes d c s → pack ≡ pack_of (head_of bytes)
pack-read range bytes d c s pack e =
    pack_one pack (pack_of (head_of bytes)) (e ∙ read_done range bytes d c s (ap (λ (a : Answer). a.number) (sym e)))
