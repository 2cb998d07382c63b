-- The digits of a decimal number, read back.
-- Assumes nothing.
use mathlib.Core.Path.{◌≡◌, refl, sym, ap, ◌∙◌}
use mathlib.Core.List.{List, [], ◌∷◌, ◌++◌}
use mathlib.Core.Logic.{⊎_elim}
use Prim.Native.Nat.{ℕ, zero, suc, ◌+◌, ◌-◌, ◌*◌, ◌/◌, ◌%◌, ◌^◌, ◌≤◌, ◌<◌}
use native.Mathlib.Nat.{pow-suc}
use native.Mathlib.Omega.{arith}
use borrow.Author.Tests.{lt-ltb, le-ltb, le-leb, ltb-false}
use lib.Dec.{ltb, leb}
use Rattle.std.specs.Prelude.{Option, None, Some}
use Rattle.answers.proofs.Rules.{picked}
use Rattle.text.specs.Text.{glyph, decimal}
use Rattle.text.specs.Numeral.{worth, in_decimal}
use Rattle.text.proofs.Figures.{decimal-one, decimal-more}
use Rattle.text.proofs.Line.{decimal-digit}
use Rattle.text.proofs.Order.{lt-or-le}

-- ---- one digit
pub worth-glyph : (d : ℕ) → d < 10 → in_decimal (worth (glyph d)) ≡ Some d
unfolding worth
worth-glyph d h =
    let e : 0x30 + d - 0x30 ≡ d = omega arith in
    rw (lt-ltb d 10 h, le-ltb (0x30 + d) 0x30 (omega arith), le-leb (0x30 + d) 0x39 (omega arith), e, lt-ltb d 10 h)

-- only the ten digits are worth less than 10
abbrev Spelled : ℕ → ℕ → Option ℕ → Type 0
Spelled b d o = o ≡ Some d → d < 10 → b ≡ 0x30 + d

digit-is : (b : ℕ) {d : ℕ} → worth b ≡ Some d → d < 10 → b ≡ 0x30 + d
unfolding worth
digit-is b {d} =
    picked (Spelled b d) (ltb b 0x30) None _ (λ _ q. let z : ◌≡◌ {A = ℕ} 0 1 = cc in absurd (omega arith))
    (λ f. picked (Spelled b d) (leb b 0x39) (Some (b - 0x30)) _ (λ _ q h. let e : b - 0x30 ≡ d = cc in omega (arith, ltb-false b 0x30 f))
    (λ _. picked (Spelled b d) (ltb b 0x41) None _ (λ _ q. let z : ◌≡◌ {A = ℕ} 0 1 = cc in absurd (omega arith))
    (λ l. picked (Spelled b d) (leb b 0x46) (Some (b - 0x37)) None (λ _ q h. let e : b - 0x37 ≡ d = cc in absurd (omega (arith, ltb-false b 0x41 l))) (λ _ q. let z : ◌≡◌ {A = ℕ} 0 1 = cc in absurd (omega arith)))))

pub glyph-worth : (b : ℕ) {d : ℕ} → in_decimal (worth b) ≡ Some d → glyph d ≡ b
glyph-worth b {d} q = let w = decimal-digit (worth b) q in rw (lt-ltb d 10 w.1) (sym (digit-is b w.0 w.1))

-- ---- a run of digits behind a number, and the number that all of them spell
abbrev pub Spell : ℕ → List ℕ → ℕ → Type 0
Spell m [] n = m ≡ n
Spell m (b ∷ bs) n = (d : ℕ) × (in_decimal (worth b) ≡ Some d) × Spell (m * 10 + d) bs n

spell-more : (m : ℕ) (bs : List ℕ) (n b : ℕ) {d : ℕ} → Spell m bs n → in_decimal (worth b) ≡ Some d → Spell m (bs ++ (b ∷ [])) (n * 10 + d)
spell-more m [] n b {d} e w = (d, w, omega arith)
spell-more m (a ∷ bs) n b (k, v, s) w = (k, v, spell-more (m * 10 + k) bs n b s w)

-- ---- a number's own: the first is 0 only of 0
pub record Digits (n : ℕ) : Type 0 where
  pub first : ℕ
  pub rest : List ℕ
  pub value : ℕ
  pub are : decimal n ≡ first ∷ rest
  pub digit : in_decimal (worth first) ≡ Some value
  pub lead : value ≡ 0 → n ≡ 0
  pub spell : Spell value rest n

one-digit : (n : ℕ) → n < 10 → Digits n
one-digit n h =
    record { first = glyph n; rest = []; value = n; are = decimal-one n h; digit = worth-glyph n h; lead = λ z. z; spell = refl }

more-digits : (n : ℕ) → n < 2 ^ 64 → 10 ≤ n → Digits (n / 10) → Digits n
more-digits n s h p =
    let e = worth-glyph (n % 10) (omega arith) in
    let f : n / 10 * 10 + n % 10 ≡ n = omega arith in
    record {
      first = p.first;
      rest = p.rest ++ (glyph (n % 10) ∷ []);
      value = p.value;
      are = decimal-more n s h ∙ ap (λ (l : List ℕ). l ++ (glyph (n % 10) ∷ [])) p.are;
      digit = p.digit;
      lead = λ z. absurd (omega (arith, p.lead z));
      spell = rw f at (spell-more p.value p.rest (n / 10) (glyph (n % 10)) p.spell e);
    }

pub digits_of : (k n : ℕ) → n < 10 ^ suc k → n < 2 ^ 64 → Digits n
digits_of zero n h s = one-digit n (omega arith)
digits_of (suc k) n h s =
    ⊎_elim (one-digit n)
    (λ (g : 10 ≤ n). more-digits n s g (digits_of k (n / 10) (omega (arith, pow-suc 10 (suc k))) (omega arith)))
    (lt-or-le n 10)
