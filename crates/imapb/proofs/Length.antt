-- What the length L of a code decides: whether it is supported, and the powers of two that its parts stand at.
-- Assumes nothing.
use mathlib.Core.Path.{◌≡◌, refl, sym}
use mathlib.Core.Bool.{true}
use mathlib.Core.List.{List, [], ◌∷◌}
use Prim.Native.Nat.{ℕ, ◌+◌, ◌-◌, ◌*◌, ◌/◌, ◌^◌, ◌≤◌}
use native.Mathlib.Omega.{arith}
use borrow.Author.Tests.{le-leb, eqb-true}
use lib.Dec.{T, leb, leb→le, eqb}
use lib.ListN.{length}
use lib.Ieee.Fits.{and_l, and_r}
use lib.Pow.{pow-add, shl-shr, shr-shr}
use Rattle.std.specs.Prelude.{Err, Ok, Some, Result}
use Rattle.std.specs.Result.{result_ok}
use Rattle.answers.specs.Outcome.{unless}
use Rattle.answers.specs.Table.{Answer, answer, wholes, passes}
use Rattle.answers.specs.declared.Refusal.{Refusal}
use Rattle.answers.proofs.Next.{next-zero}
use Rattle.answers.proofs.Outcome.{found-tells}
use Rattle.answers.proofs.Rules.{picked}
use Rattle.imapb.specs.declared.code_length.CodeLength.{CodeLength}
use Rattle.imapb.specs.Mapping.{top_of}
use Rattle.imapb.specs.Tables.{supported, length_listed, code_length, length_rule, slice_rule, code_rules}

pub is-supported : (L : ℕ) → 1 ≤ L → L ≤ 8 → supported L ≡ true
is-supported L o h = rw (le-leb 1 L o, le-leb L 8 h)

pub lengths : (L : ℕ) → supported L ≡ true → (1 ≤ L) × (L ≤ 8)
lengths L s = let t : T (supported L) = rw s tt in (leb→le 1 L (and_l (leb 1 L) (leb L 8) t), leb→le L 8 (and_r (leb 1 L) (leb L 8) t))

-- what a length that has codes was made of, where rules find it
pub length-found : (rules : Answer) (L : ℕ) {r : Result CodeLength Refusal} {l : CodeLength} → r ≡ Ok l → length_listed r ≡ unless rules L
    → (rules.number ≡ 0) × (l.bytes ≡ L)
length-found rules L h e = found-tells rules L (rw h at e)

pub length-kept : (L : ℕ) (r : Result CodeLength Refusal) {l : CodeLength} → result_ok r ≡ Some l → length_listed r ≡ code_length L → l.bytes ≡ L
length-kept L (Ok k) {l} h e = let f : k ≡ l = cc in rw (← f) (length-found (length_rule L) L {r = Ok k} refl e).1
length-kept L (Err x) h e = absurd (let z : ◌≡◌ {A = ℕ} 0 1 = cc in omega arith)

-- a code that they pass has just as many bytes
pub slice-length : (L : ℕ) (bytes : List ℕ) → (code_rules L bytes).number ≡ 0 → length bytes ≡ L
slice-length L bytes z =
    picked (λ a. a.number ≡ 0 → length bytes ≡ L) (eqb (length bytes) L) passes (answer 2 (wholes (L ∷ length bytes ∷ [])))
    (λ t _. eqb-true (length bytes) L t) (λ _ z. absurd (omega arith))
    (next-zero (length_rule L) (slice_rule L bytes) z).1

-- ---- the powers of two
-- the top code without its k low bits
pub top-cut : (L k n : ℕ) → n + k ≡ 8 * L - 1 → top_of L / 2 ^ k ≡ 2 ^ n
top-cut L k n e = rw (← e, pow-add) (shl-shr (2 ^ n) k)

-- j low bits cut off, and then k more
pub cut-more : (y j k n : ℕ) → j + k ≡ n → y / 2 ^ n ≡ y / 2 ^ j / 2 ^ k
cut-more y j k n e = rw (← e) (sym (shr-shr y j k))
