-- A special code that is written reads as that special with its payload.
-- Assumes nothing.
use mathlib.Core.Path.{◌≡◌, refl, ap, ◌∙◌}
use Prim.Native.Nat.{ℕ, ◌-◌, ◌*◌, ◌/◌, ◌^◌, ◌≤◌, ◌<◌}
use native.Mathlib.Nat.{mod-eq_of_lt, lt_of_lt_of_le, pow-le-pow_right}
use native.Mathlib.Omega.{arith}
use borrow.Author.Rules.{rules}
use borrow.Author.Tests.{eq-eqb, ne_eqb}
use lib.Arith.{digits_lt}
use lib.Pow.{high, low, pow-add, pow_pos}
use Rattle.answers.proofs.Cases.{counts, Case, All, every}
use Rattle.numbers.specs.Words.{bytes_of}
use Rattle.numbers.proofs.Bytes.{bits, length-bytes, word-of-bytes}
use Rattle.imapb.specs.declared.special.ImapbSpecial.{ImapbSpecial}
use Rattle.imapb.specs.declared.special.ImapbSpecial.TheVariants.{AboveMax}
use Rattle.imapb.specs.declared.decode.DecodedImapb.TheVariants.{Special}
use Rattle.imapb.specs.Special.{family, payload, special_code, overflow_reading, special_reading, reading}
use Rattle.imapb.specs.Tables.{reads, imapb_read}
use Rattle.imapb.specs.contracts.special.ImapbSpecial.{the_parts as parts, as_values, the_make as make, the_eta as eta}
use Rattle.imapb.proofs.Length.{is-supported, cut-more}

-- what holds of each kind holds of all
each : (P : ImapbSpecial → Type 0) → All (counts parts) (λ c. P (make c)) → (s : ImapbSpecial) → P s
each P h s = rw (← (eta s)) (every (counts parts) (λ (c : Case (counts parts)). P (make c)) h (as_values s))

-- the top two bits are set, of five
family-in : (s : ImapbSpecial) → (24 ≤ family s) × (family s < 32)
family-in = each (λ s. (24 ≤ family s) × (family s < 32)) (search rules)

above : (L y : ℕ) → overflow_reading L (2 ^ (8 * L - 8)) y ≡ Special AboveMax
above L y = rw (ne_eqb (2 ^ (8 * L - 8)) 0 (omega (arith, pow_pos (8 * L - 8))), eq-eqb (2 ^ (8 * L - 8)) (2 ^ (8 * L - 8)) refl)

by-family : (L y : ℕ) (s : ImapbSpecial) → special_reading L (family s) (payload L s) y ≡ Special s
by-family L y = each (λ s. special_reading L (family s) (payload L s) y ≡ Special s) (search (above L y) depth 12)

module _ (L : ℕ) (s : ImapbSpecial) (some : 1 ≤ L) (h : payload L s < 2 ^ (8 * L - 5)) where
  -- L bytes hold it
  pub special-lt : special_code L s < 256 ^ L
  special-lt =
      let e : 2 ^ (8 * L) ≡ 32 * 2 ^ (8 * L - 5) = ap (λ (n : ℕ). 2 ^ n) (omega arith) ∙ pow-add 2 5 (8 * L - 5) in
      rw (bits, e) (digits_lt (family-in s).1 h)

  pub special-fits : L ≤ 8 → special_code L s < 2 ^ 64
  special-fits most = lt_of_lt_of_le special-lt (pow-le-pow_right {n = 256} (omega arith) {i = L} {j = 8} most)

  pub special-back : reading L (special_code L s) ≡ Special s
  special-back =
      let y = special_code L s in
      let f : y / 2 ^ (8 * L - 5) ≡ family s = high (family s) (8 * L - 5) h in
      let t : y / 2 ^ (8 * L - 2) ≡ 3 = cut-more y (8 * L - 5) 3 (8 * L - 2) (omega arith) ∙ omega (arith, f, family-in s) in
      rw (eq-eqb (y / 2 ^ (8 * L - 2)) 3 t, f, low (family s) (8 * L - 5) h) (by-family L y s)

  -- and so do the bytes
  pub special-read : L ≤ 8 → imapb_read L (bytes_of L (special_code L s)) ≡ reads (Special s)
  special-read most =
      rw (is-supported L some most, length-bytes, eq-eqb L L refl, word-of-bytes L (special_code L s) most, mod-eq_of_lt special-lt) (ap reads special-back)
