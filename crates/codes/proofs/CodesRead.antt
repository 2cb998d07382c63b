-- Codes in mapped form: the word that one ends, and the bits that it reads as.
-- Assumes nothing.
use Rattle.std.specs.Prelude.{Err, Ok, Result}
use Rattle.std.proofs.Common.{◌≡◌, ℕ, ◌+◌, ◌-◌, ◌*◌, ◌/◌, ◌%◌, ◌^◌, ◌<◌, ◌≤◌, Bool, true, false, eqb, List, length, take, drop, refl, ap, ◌∙◌, arith, drop-drop, take-add, pow_pos, pow_mono, eq-eqb}
use native.Mathlib.Nat.{pow-succ'}
use borrow.Author.Tests.{lt-leb}
use lib.Bits.{bit_and, and_mask}
use Rattle.answers.specs.declared.Refusal.{Refusal}
use Rattle.answers.specs.Table.{pick}
use Rattle.numbers.specs.Words.{word_of}
use Rattle.numbers.proofs.Bytes.{last-bytes}
use Rattle.imapb.specs.declared.decode.DecodedImapb.{DecodedImapb}
use Rattle.imapb.specs.Mapping.{top_of}
use Rattle.imapb.specs.Special.{special_reading, reading}
use Rattle.imapb.specs.Tables.{reads, imapb_listed, imapb_read}
use Rattle.imapb.proofs.Length.{is-supported}
use Rattle.elements.specs.Elements.{part, value_bits}
use Rattle.elements.proofs.Parts.{part-whole}

-- ---- a code of L bytes ends a word: its bits are the low ones
module _ (L : ℕ) (least : 1 ≤ L) (most : L ≤ 8) where
  whole : 2 ^ (8 * L) ≡ 2 * top_of L
  whole = ap (λ (x : ℕ). 2 ^ x) (omega arith) ∙ pow-succ' 2 (8 * L - 1)

  pub mask_fits : top_of L - 1 + top_of L < 2 ^ 64
  mask_fits = omega (arith, whole, pow_pos (8 * L - 1), pow_mono {i = 8 * L} {j = 64} (omega arith))

  masked : (w : ℕ) → bit_and w (top_of L - 1 + top_of L) ≡ w % 2 ^ (8 * L)
  masked w =
      let e : top_of L - 1 + top_of L ≡ 2 ^ (8 * L) - 1 = omega (arith, whole, pow_pos (8 * L - 1)) in
      rw e (and_mask w (8 * L))

  module _ (bytes : List ℕ) (at : ℕ) (words : 8 ≤ at) (held : at + L ≤ length bytes) where
    size : length (part bytes at L) ≡ L
    size = part-whole bytes at L (omega arith)

    pub code-last : bit_and (word_of (part bytes (at + L - 8) (at + L - (at + L - 8)))) (top_of L - 1 + top_of L) ≡ word_of (part bytes at L)
    code-last =
        let s = at + L - 8 in
        let e : at + L - s ≡ 8 - L + L = omega arith in
        let p : s + (8 - L) ≡ at = omega arith in
        let q = last-bytes (take (8 - L) (drop s bytes)) (part bytes at L) (omega (arith, size)) in
        rw (masked, e, take-add, drop-drop, p) (rw size at q)

-- ---- a code that is there is read, and not refused
module _ (L : ℕ) (least : 1 ≤ L) (most : L ≤ 8) (bytes : List ℕ) (at : ℕ) (held : at + L ≤ length bytes) where
  is_read : imapb_read L (part bytes at L) ≡ reads (reading L (word_of (part bytes at L)))
  is_read = rw (is-supported L least most, eq-eqb (length (part bytes at L)) L (part-whole bytes at L (omega arith)))

  pub read_as : {r : Result DecodedImapb Refusal} {d : DecodedImapb} → r ≡ Ok d → imapb_listed r ≡ imapb_read L (part bytes at L) → d ≡ reading L (word_of (part bytes at L))
  read_as h e = let l = ap imapb_listed h in let r = is_read in cc

  pub read-never : {r : Result DecodedImapb Refusal} {x : Refusal} → r ≡ Err x → imapb_listed r ≡ imapb_read L (part bytes at L) → ⊥
  read-never h e = let l = ap imapb_listed h in let r = is_read in let z : ◌≡◌ {A = ℕ} 0 1 = cc in omega arith

-- ---- what is no value reads 0.0, and nothing above the code of 1 is one
either : (b : Bool) (x y : DecodedImapb) → value_bits x ≡ 0 → value_bits y ≡ 0 → value_bits (pick b x y) ≡ 0
either true x y h k = h
either false x y h k = k

special-bits : (L f p y : ℕ) → value_bits (special_reading L f p y) ≡ 0
special-bits L f p y = search either depth 24

pub above-bits : (L y : ℕ) → top_of L < y → value_bits (reading L y) ≡ 0
above-bits L y h =
    rw (lt-leb y (top_of L) h) (either (eqb (y / 2 ^ (8 * L - 2)) 0b11) _ _ (special-bits L (y / 2 ^ (8 * L - 5)) (y % 2 ^ (8 * L - 5)) y) refl)
