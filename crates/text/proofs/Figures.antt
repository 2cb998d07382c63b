-- Numbers as text: how long they are, and one digit more.
-- Assumes nothing.
use mathlib.Core.Path.{◌≡◌, refl, ap}
use mathlib.Core.List.{[], ◌∷◌, ◌++◌}
use Prim.Native.Nat.{ℕ, zero, suc, ◌+◌, ◌*◌, ◌/◌, ◌%◌, ◌^◌, ◌≤◌, ◌<◌}
use native.Mathlib.Nat.{pow-suc, div-one, mod-eq_of_lt}
use native.Mathlib.Numerals.{add-one}
use native.Mathlib.Omega.{arith}
use borrow.Author.Tests.{lt-ltb, le-ltb}
use lib.Dec.{ltb}
use lib.ListN.{length, length-append}
use lib.Pow.{shr-shr}
use Rattle.answers.specs.Table.{pick}
use Rattle.answers.proofs.Rules.{picked}
use Rattle.text.specs.Text.{glyph, figures, places_up_to, places, decimal, hex}

-- ---- lengths
pub length-figures : (base k n : ℕ) → length (figures base k n) ≡ k
length-figures base zero n = refl
length-figures base (suc k) n = rw (length-append, length-figures base k (n / base)) (add-one k)

-- a number below 10^(k+1) has at most k+1 digits
few-places : (j k n : ℕ) → n < 10 ^ suc k → places_up_to j n ≤ suc k
few-places zero k n h = omega arith
few-places (suc j) zero n h = rw (lt-ltb n 10 (omega arith)) (omega arith)
few-places (suc j) (suc k) n h =
    picked (λ (p : ℕ). p ≤ suc (suc k)) (ltb n 10) 1 (suc (places_up_to j (n / 10))) (λ _. omega arith)
    (λ _. omega (arith, few-places j k (n / 10) (omega (arith, pow-suc 10 (suc k)))))

-- and so its text is short
pub length-decimal : (k n : ℕ) → n < 10 ^ suc k → length (decimal n) ≤ suc k
unfolding places
length-decimal k n h = rw (length-figures 10 (places_up_to 19 n) n) (few-places 19 k n h)

-- and any number at most 20
most-places : (j n : ℕ) → places_up_to j n ≤ suc j
most-places zero n = omega arith
most-places (suc j) n =
    picked (λ (p : ℕ). p ≤ suc (suc j)) (ltb n 10) 1 (suc (places_up_to j (n / 10))) (λ _. omega arith) (λ _. omega (arith, most-places j (n / 10)))

pub longest-decimal : (n : ℕ) → length (decimal n) ≤ 20
unfolding places
longest-decimal n = rw (length-figures 10 (places_up_to 19 n) n) (most-places 19 n)

pub length-hex : (bits : ℕ) → length (hex bits) ≡ 16
unfolding hex
length-hex bits = length-figures 16 16 bits

-- ---- decimal: the last digit behind those before it
-- a number that k+1 digits hold has no more by a higher bound
same-places : (k n : ℕ) → n < 10 ^ suc k → places_up_to k n ≡ places_up_to (suc k) n
same-places zero n h = rw (lt-ltb n 10 (omega arith))
same-places (suc k) n h =
    let e = same-places k (n / 10) (omega (arith, pow-suc 10 (suc k))) in
    ap (λ (p : ℕ). pick (ltb n 10) 1 (suc p)) e

pub decimal-one : (n : ℕ) → n < 10 → decimal n ≡ glyph n ∷ []
unfolding places
decimal-one n h = simp (lt-ltb n 10 h, mod-eq_of_lt h)

pub decimal-more : (n : ℕ) → n < 2 ^ 64 → 10 ≤ n → decimal n ≡ decimal (n / 10) ++ (glyph (n % 10) ∷ [])
unfolding places
decimal-more n s h = rw (le-ltb n 10 h, same-places 18 (n / 10) (omega arith))

-- ---- hex: the highest digit before those behind it
pub hex-more : (k n : ℕ) → figures 16 (suc k) n ≡ glyph (n / 2 ^ (4 * k) % 16) ∷ figures 16 k n
hex-more zero n = rw div-one
hex-more (suc k) n =
    let e : 4 * suc k ≡ 4 + 4 * k = omega arith in
    rw (hex-more k (n / 16), e, ← (shr-shr n 4 (4 * k)))
