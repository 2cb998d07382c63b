-- Comparisons of numbers by their values, and the powers of two in units of 2^-1074.
-- Assumes nothing.
use Rattle.std.proofs.Common.{◌≡◌, ℕ, ◌+◌, ◌*◌, ◌^◌, ◌<◌, Bool, true, false, not, ◌&&◌, ◌||◌, eqb, ltb, leb, sym, refl, ap, ◌∙◌, mul-pos, lt_of_not-le, arith, pow_pos, pow-add, le-ltb, lt-ltb, eq-eqb, ne_eqb, le-leb}
use native.Mathlib.Decide.{dec_le}
use borrow.Author.Tests.{lt-leb}
use lib.Ieee.{Float, fin, Format, binary64, low, up, down, minus, below, lt, le}
use lib.Ieee.Digits.{minus_val}
use lib.Ieee.Exact.{HasValue}
use lib.Ieee.Fits.{down_pos}
use Rattle.imapb.proofs.Units.{Counts, by_value, same-order}
use Rattle.imapb.proofs.Exact.{again}
use Rattle.ranges.specs.Range.{two_to}

-- ---- ±a / c against ±b / c
same-below : (s t : Bool) (a b c a' b' c' : ℕ) → 0 < c → 0 < c' → a * c' ≡ a' * c → b * c' ≡ b' * c → below s a t b ≡ below s a' t b'
same-below false false a b c a' b' c' C C' p q = same-order a b c a' b' c' C C' p q
same-below false true a b c a' b' c' C C' p q = refl
same-below true false a b c a' b' c' C C' p q = same-order 0 (a + b) c 0 (a' + b') c' C C' (omega arith) (omega arith)
same-below true true a b c a' b' c' C C' p q = same-order b a c b' a' c' C C' q p

pub lt-is : (x y : Float) (s t : Bool) (a b c : ℕ) → 0 < c → HasValue x s a c → HasValue y t b c → lt x y ≡ below s a t b
unfolding lt
lt-is x y s t a b c C h k =
    by_value (λ (x : Float). lt x y ≡ below s a t b) s a c
    (λ m e p. by_value (λ (y : Float). lt (fin s m e) y ≡ below s a t b) t b c
    (λ n d q. same-below s t (m * up e * down d) (n * up d * down e) (down e * down d) a b c (mul-pos (down_pos e) (down_pos d)) C
    (omega (arith, ap (λ (z : ℕ). z * down d) p)) (omega (arith, ap (λ (z : ℕ). z * down e) q)))
    y k)
    x h

-- without a sign
not-above : (a b : ℕ) → leb a b ≡ not (ltb b a)
not-above a b = elim (dec_le a b) [ yes h ↦ rw (le-leb a b h, le-ltb b a h) | no h ↦ rw (lt-leb a b (lt_of_not-le h), lt-ltb b a (lt_of_not-le h)) ]

at_most : (a b : ℕ) → ltb a b || (eqb a b && true) ≡ not (ltb b a)
at_most a b =
    elim (dec_le b a) [
      | yes h ↦ elim (dec_le a b) [ yes k ↦ rw (eq-eqb a b (omega arith), le-ltb a b h, le-ltb b a k) | no k ↦ rw (le-ltb a b h, ne_eqb a b (omega arith), lt-ltb b a (lt_of_not-le k)) ]
      | no h ↦ rw (lt-ltb a b (lt_of_not-le h), le-ltb b a (omega arith))
    ]

pub le_is : (x y : Float) (a b c : ℕ) → 0 < c → HasValue x false a c → HasValue y false b c → le x y ≡ leb a b
unfolding le
le_is x y a b c C h k =
    by_value (λ (x : Float). le x y ≡ not (lt y x)) false a c
    (λ m e p. by_value (λ (y : Float). le (fin false m e) y ≡ not (lt y (fin false m e))) false b c (λ n d q. at_most (m * up e * down d) (n * up d * down e)) y k)
    x h
    ∙ ap not (lt-is y x false false b a c C k h) ∙ sym (not-above a b)

-- ---- powers of two
pub power-is : (a b : ℕ) → HasValue (fin false 1 (minus a b)) false (2 ^ a) (2 ^ b)
power-is a b = (refl, omega (arith, minus_val 1 a b))

pub power-counts : (f : Format) (a b n : ℕ) → n + b ≡ low f + a → Counts f (fin false 1 (minus a b)) false (2 ^ n)
power-counts f a b n e =
    again (fin false 1 (minus a b)) false (2 ^ a) (2 ^ b) (2 ^ n) (2 ^ low f) (pow_pos b) (power-is a b)
    (sym (pow-add 2 a (low f)) ∙ ap (λ (z : ℕ). 2 ^ z) (omega arith) ∙ pow-add 2 n b)

-- 2^(k-61)
pub two-counts : (k : ℕ) → Counts binary64 (two_to k) false (2 ^ (1013 + k))
two-counts k = power-counts binary64 k 61 (1013 + k) (omega arith)
