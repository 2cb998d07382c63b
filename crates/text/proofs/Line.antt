-- A line that is read digit by digit: what a turn of each loop leaves to read.
-- Assumes nothing.
use mathlib.Core.Path.{◌≡◌, refl, sym, ◌∙◌}
use mathlib.Core.List.{List, [], ◌∷◌}
use mathlib.Core.Logic.{⊎_elim}
use Prim.Native.Nat.{ℕ, suc, ◌+◌, ◌-◌, ◌*◌, ◌%◌, ◌^◌, ◌≤◌, ◌<◌}
use native.Mathlib.Nat.{zero-add}
use native.Mathlib.Numerals.{add-one}
use native.Mathlib.Omega.{arith}
use borrow.Author.Tests.{le-leb, lt-leb, leb-true, ltb-true}
use lib.Dec.{ltb, leb}
use lib.ListN.{length, drop, get_or-eq_default, drop_of_length-le}
use lib.Seq.{drop-cons}
use Rattle.std.specs.Prelude.{Option, None, Some}
use Rattle.answers.proofs.Rules.{picked}
use Rattle.text.specs.declared.numeral.Numeral.{Numeral}
use Rattle.text.specs.Numeral.{numeral, worth, digit_at, in_decimal, with_digit, most, fitting, decimal_from, decimal_at, hex_from}
use Rattle.text.proofs.Order.{lt-or-le}

-- past the end there is no digit
pub none-past : (line : List ℕ) (at : ℕ) → length line ≤ at → digit_at line at ≡ None
unfolding worth
none-past line at h = rw (get_or-eq_default line 0 h)

-- so a digit stands within the line
pub digit-within : (line : List ℕ) (at : ℕ) {d : ℕ} → digit_at line at ≡ Some d → at < length line
digit-within line at q =
    ⊎_elim (λ l. l) (λ g. let n = none-past line at g in let z : ◌≡◌ {A = ℕ} 0 1 = cc in absurd (omega arith)) (lt-or-le at (length line))

-- and is below 16
pub digit-small : (byte : ℕ) {d : ℕ} → worth byte ≡ Some d → d < 16
unfolding worth
digit-small byte {d} =
    picked (λ (o : Option ℕ). o ≡ Some d → d < 16) (ltb byte 0x30) None _ (λ _ q. let z : ◌≡◌ {A = ℕ} 0 1 = cc in absurd (omega arith))
    (λ _. picked (λ (o : Option ℕ). o ≡ Some d → d < 16) (leb byte 0x39) (Some (byte - 0x30)) _ (λ t q. let e : byte - 0x30 ≡ d = cc in omega (arith, leb-true byte 0x39 t))
    (λ _. picked (λ (o : Option ℕ). o ≡ Some d → d < 16) (ltb byte 0x41) None _ (λ _ q. let z : ◌≡◌ {A = ℕ} 0 1 = cc in absurd (omega arith))
    (λ _. picked (λ (o : Option ℕ). o ≡ Some d → d < 16) (leb byte 0x46) (Some (byte - 0x37)) None (λ t q. let e : byte - 0x37 ≡ d = cc in omega (arith, leb-true byte 0x46 t)) (λ _ q. let z : ◌≡◌ {A = ℕ} 0 1 = cc in absurd (omega arith)))))

-- by whether there is a digit
pub digit_or : {A : Type 0} (P : A → Type 0) (o : Option ℕ) {f : ℕ → A} {none : A}
    → ((d : ℕ) → o ≡ Some d → P (f d)) → (o ≡ None → P none) → P (with_digit o f none)
digit_or P (Some d) s n = s d refl
digit_or P None s n = n refl

-- a decimal digit is a digit below 10
pub decimal-digit : (o : Option ℕ) {d : ℕ} → in_decimal o ≡ Some d → (o ≡ Some d) × (d < 10)
decimal-digit (Some digit) {d} =
    picked (λ (o : Option ℕ). o ≡ Some d → (Some digit ≡ Some d) × (d < 10)) (ltb digit 10) (Some digit) None
    (λ t q. let e : digit ≡ d = cc in (q, omega (arith, ltb-true digit 10 t)))
    (λ _ q. let z : ◌≡◌ {A = ℕ} 0 1 = cc in absurd (omega arith))
decimal-digit None = λ q. let z : ◌≡◌ {A = ℕ} 0 1 = cc in absurd (omega arith)

pub decimal-within : (line : List ℕ) (at : ℕ) {d : ℕ} → in_decimal (digit_at line at) ≡ Some d → at < length line
decimal-within line at q = digit-within line at (decimal-digit (digit_at line at) q).0

module _ (line : List ℕ) (next value : ℕ) where
  -- a decimal digit more
  pub decimal-more : {d : ℕ} → in_decimal (digit_at line next) ≡ Some d
      → decimal_from value next (drop next line) ≡ decimal_from (value * 10 + d) (next + 1) (drop (next + 1) line)
  decimal-more q = let k = decimal-within line next q in rw (drop-cons line next 0 k, q, add-one)

  -- the end of the run
  pub decimal-end : in_decimal (digit_at line next) ≡ None → decimal_from value next (drop next line) ≡ fitting value next
  decimal-end q =
      ⊎_elim (λ (l : next < length line). rw (drop-cons line next 0 l, q))
      (λ (g : length line ≤ next). rw (drop_of_length-le line g)) (lt-or-le next (length line))

-- what is too much stays so
pub decimal-over : (value next : ℕ) (bs : List ℕ) → most < value → decimal_from value next bs ≡ None
decimal-over value next [] h = rw (lt-leb value most h)
decimal-over value next (b ∷ bs) h =
    digit_or (λ (n : Option Numeral). n ≡ None) (in_decimal (worth b)) (λ d _. decimal-over (value * 10 + d) (next + 1) bs (omega arith))
    (λ _. rw (lt-leb value most h))

module _ (line : List ℕ) (next value k : ℕ) where
  -- a hex digit more
  pub hex-more : {d : ℕ} → digit_at line next ≡ Some d
      → hex_from (suc k) value next (drop next line) ≡ hex_from k (value % 2 ^ 60 * 16 + d) (next + 1) (drop (next + 1) line)
  hex-more q = let w = digit-within line next q in rw (drop-cons line next 0 w, q, add-one)

  -- no digit where one is needed
  pub hex-none : digit_at line next ≡ None → hex_from (suc k) value next (drop next line) ≡ None
  hex-none q =
      ⊎_elim (λ (l : next < length line). rw (drop-cons line next 0 l, q))
      (λ (g : length line ≤ next). rw (drop_of_length-le line g)) (lt-or-le next (length line))

-- ---- the loop that reads a decimal number, behind its first digit
pub record Reading (line : List ℕ) (at value next : ℕ) : Type 0 where
  pub fits : value ≤ most
  pub is : decimal_from value next (drop next line) ≡ decimal_at line at

pub reading-first : {line : List ℕ} {at d : ℕ} → in_decimal (digit_at line at) ≡ Some d → Reading line at d (at + 1)
reading-first {line} {at} {d} q =
    let s = decimal-digit (digit_at line at) q in
    record { fits = omega (arith, s.1); is = rw q (rw zero-add at (sym (decimal-more line at 0 q))) }

module _ {line : List ℕ} {at value next : ℕ} (p : Reading line at value next) where
  -- the digit more is too much
  pub reading-over : {d : ℕ} → in_decimal (digit_at line next) ≡ Some d → most < value * 10 + d → None ≡ decimal_at line at
  reading-over {d} q o =
      sym (decimal-over (value * 10 + d) (next + 1) (drop (next + 1) line) o) ∙ sym (decimal-more line next value q) ∙ p.is

  pub reading-more : {d : ℕ} → in_decimal (digit_at line next) ≡ Some d → value * 10 + d ≤ most → Reading line at (value * 10 + d) (next + 1)
  reading-more q f = record { fits = f; is = sym (decimal-more line next value q) ∙ p.is }

  pub reading-done : in_decimal (digit_at line next) ≡ None → Some (numeral value next) ≡ decimal_at line at
  reading-done q = sym (decimal-end line next value q ∙ rw (le-leb value most p.fits)) ∙ p.is
