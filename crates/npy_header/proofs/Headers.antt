-- Laws of the header: how long it is, what its padding leaves, and what a turn of each loop over it leaves to do.
-- Assumes nothing.
use mathlib.Core.Path.{◌≡◌, refl, sym, ◌∙◌}
use mathlib.Core.List.{List, [], ◌∷◌, append-nil}
use mathlib.Core.Logic.{⊎_elim}
use Prim.Native.Nat.{ℕ, suc, ◌+◌, ◌-◌, ◌*◌, ◌^◌, ◌≤◌, ◌<◌, min}
use native.Mathlib.Nat.{zero-add, pow-suc, pow-le-pow_right}
use native.Mathlib.Numerals.{add-one}
use native.Mathlib.Omega.{arith}
use borrow.Author.Tests.{le-ltb, eq-eqb, ne_eqb}
use lib.ListN.{length, drop, get_or, set, length-append, drop_of_length-le}
use lib.Seq.{sets, drop-cons}
use Rattle.std.specs.Prelude.{Result, None, Some}
use Rattle.answers.specs.Table.{answer, wholes}
use Rattle.answers.specs.Listed.{written}
use Rattle.answers.specs.Lent.{leaves, tab}
use Rattle.answers.proofs.Lent.{length-tab}
use Rattle.answers.proofs.Stored.{sets_over, sets_more}
use Rattle.text.specs.Put.{Put}
use Rattle.text.specs.Text.{decimal}
use Rattle.text.specs.Numeral.{digit_at, in_decimal}
use Rattle.text.proofs.Figures.{length-decimal}
use Rattle.text.proofs.Line.{decimal-digit}
use Rattle.text.proofs.Order.{lt-or-le}
use Rattle.text.proofs.Pieces.{put-long, put_whole}
use Rattle.npy_header.specs.Header.{header_length, described, padding, header, max_size, number_from, size_in, break_of}
use Rattle.npy_header.specs.Rules.{header_written}
use Rattle.answers.specs.declared.Refusal.{Refusal}

-- ---- how long
pub length-described : (n : ℕ) → length (described n) ≡ 67 + 2 * length (decimal n)
length-described n = simp length-append (omega arith)

-- nine digits leave room for the newline
pub described-fits : (n : ℕ) → n ≤ max_size → length (described n) < header_length
described-fits n h = omega (arith, length-described n, length-decimal 8 n (omega arith))

pub length-padding : (at : ℕ) → at < header_length → length (padding at) ≡ header_length - at
length-padding at h = rw (length-append, length-tab (header_length - 1 - at) (λ _. 0x20)) (omega arith)

pub length-header : (n : ℕ) → n ≤ max_size → length (header n) ≡ 128
unfolding header
length-header n h =
    let k = described-fits n h in
    rw (length-append (described n) (padding (length (described n))), length-padding (length (described n)) k) (omega arith)

-- ---- the description put, and the padding behind it
module _ {n : ℕ} {l : List ℕ} {r : ℕ} {m : List ℕ} (h : n ≤ max_size) (k : header_length ≤ length l) (p : Put (described n) 0 l r m) where
  behind : r ≡ length (described n)
  behind = omega (arith, described-fits n h, put_whole p (omega (arith, described-fits n h)))

  pub described-room : (r < header_length) × (header_length ≤ length m)
  described-room = (omega (arith, behind, described-fits n h), omega (arith, put-long p))

  pub header-stored : {o : List ℕ} → o ≡ sets m r (padding r) → o ≡ sets l 0 (header n)
  unfolding header
  header-stored e = rw (sets_more, ← p.stored, zero-add, ← behind) e

-- ---- written where N has nine digits at most and there is room
pub header-passes : (n room : ℕ) → n ≤ max_size → header_length ≤ room → header_written n room ≡ answer 0 (wholes (header_length ∷ []))
header-passes n room h k = rw (le-ltb max_size n h, le-ltb room header_length k)

pub header-over : (n : ℕ) → n ≤ max_size → (l : List ℕ) {m : List ℕ} → header_length ≤ length l → (r : Result ℕ Refusal) → written r ≡ header_written n (length l)
    → m ≡ leaves (written r) (header n) l → m ≡ sets l 0 (header n)
header-over n h l k r e p =
    rw (e ∙ header-passes n (length l) h k) at p ∙ sym (sets_over (header n) l (rw (length-header n h) k))

-- it fills a room of its length
pub header-filled : (n : ℕ) → n ≤ max_size → (l : List ℕ) → header_length ≡ length l → sets l 0 (header n) ≡ header n
header-filled n h l e =
    let k = length-header n h in
    sets_over (header n) l (omega arith)
    ∙ rw (drop_of_length-le l {i = length (header n)} (omega arith)) (append-nil (header n))

-- ---- the padding: spaces over the part before the last byte, and the newline behind them
pub padded : (at : ℕ) (l : List ℕ) {m : List ℕ} → at < header_length → m ≡ sets l at (tab (127 - at) (λ _. 0x20))
    → set m 127 0x0a ≡ sets l at (padding at)
padded at l h e =
    let f : at + (127 - at) ≡ 127 = omega arith in
    rw (sets_more, length-tab (127 - at) (λ _. 0x20), f, e)

-- ---- the loop that takes digits: what is left to take, behind n, spells the size
pub record Sizing (file : List ℕ) (n i : ℕ) : Type 0 where
  pub within : i ≤ 9
  pub fits : n < 10 ^ i
  pub is : number_from (9 - i) n file (61 + i) ≡ size_in file

pub sizing-none : (file : List ℕ) → Sizing file 0 0
unfolding size_in
sizing-none file = record { within = omega arith; fits = omega arith; is = refl }

module _ {file : List ℕ} {n i : ℕ} (p : Sizing file n i) where
  pub sizing-small : n ≤ max_size
  sizing-small = omega (arith, p.fits, pow-le-pow_right {n = 10} (omega arith) p.within)

  one_left : i < 9 → 9 - i ≡ suc (9 - (i + 1))
  one_left h = omega arith

  pub sizing-end : i < 9 → in_decimal (digit_at file (61 + i)) ≡ None → n ≡ size_in file
  sizing-end h w = rw (one_left h, w) at p.is

  pub sizing-zero : i < 9 → {d : ℕ} → in_decimal (digit_at file (61 + i)) ≡ Some d → n * 10 + d ≡ 0 → 0 ≡ size_in file
  sizing-zero h {d} w z = rw (one_left h, w, eq-eqb (n * 10 + d) 0 z) at p.is

  pub sizing-more : i < 9 → {d : ℕ} → in_decimal (digit_at file (61 + i)) ≡ Some d → (n * 10 + d ≡ 0 → ⊥)
      → Sizing file (n * 10 + d) (i + 1)
  sizing-more h {d} w z =
      let f : 61 + i + 1 ≡ 61 + (i + 1) = omega arith in
      record {
        within = omega arith;
        fits = rw (add-one, pow-suc) (omega (arith, p.fits, (decimal-digit (digit_at file (61 + i)) w).1));
        is = rw (one_left h, w, ne_eqb (n * 10 + d) 0 z, f) at p.is;
      }

  pub sizing-done : 9 ≤ i → n ≡ size_in file
  sizing-done h = let e : 9 - i ≡ 0 = omega arith in rw e at p.is

-- ---- the loop that holds a file to a header: what is left of both breaks where all of them does
pub record Held (header file : List ℕ) (i : ℕ) : Type 0 where
  pub within : i ≤ length header
  pub is : i + break_of (drop i header) (drop i file) ≡ break_of header file

pub held_none : (header file : List ℕ) → Held header file 0
held_none header file = record { within = omega arith; is = omega arith }

module _ {header file : List ℕ} {i : ℕ} (p : Held header file i) where
  pub held-short : i < length header → length file ≤ i → i ≡ break_of header file
  held-short h k = omega (arith, rw (drop-cons header i 0 h, drop_of_length-le file k) at p.is)

  pub held-differs : i < length header → i < length file → (get_or header i 0 ≡ get_or file i 0 → ⊥) → i ≡ break_of header file
  held-differs h k d =
      omega (arith, rw (drop-cons header i 0 h, drop-cons file i 0 k, ne_eqb (get_or header i 0) (get_or file i 0) d) at p.is)

  pub held_more : i < length header → i < length file → get_or header i 0 ≡ get_or file i 0 → Held header file (i + 1)
  held_more h k d =
      record {
        within = omega arith;
        is =
            rw add-one
            (omega (arith, rw (drop-cons header i 0 h, drop-cons file i 0 k, eq-eqb (get_or header i 0) (get_or file i 0) d) at p.is));
      }

  pub held-done : length header ≤ i → i ≡ break_of header file
  held-done h = omega (arith, rw (drop_of_length-le header h) at p.is)

  -- where the shorter ends
  pub held-end : i ≡ min (length header) (length file) → i ≡ break_of header file
  held-end e = ⊎_elim (λ (h : i < length header). held-short h (omega arith)) (λ (h : length header ≤ i). held-done h) (lt-or-le i (length header))
