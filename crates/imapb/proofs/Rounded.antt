-- A whole number rounded to p binary digits and cut to steps of 2 ^ r: how far that goes. Nothing here is about floats.
-- Assumes nothing.
use mathlib.Core.Path.{◌≡◌, sym, ap, ◌∙◌}
use mathlib.Core.Logic.{inl, inr}
use Prim.Native.Nat.{ℕ, suc, ◌+◌, ◌-◌, ◌*◌, ◌/◌, ◌%◌, ◌^◌, ◌≤◌, ◌<◌, compare, Ordering}
use native.Mathlib.Nat.{le_trans, le_of_eq, le_of_lt, le_antisymm, lt_of_not-le, lt_of_le_of_lt, eq-or-lt_of_le, mul_assoc, mul-le-mul_right, le_of_mul-le-mul_right, sub-add_cancel, div-add-mod', div-mul-le_self, lt-div-mul-add, le-div_iff_mul-le}
use native.Mathlib.Decide.{dec_le}
use native.Mathlib.Omega.{arith}
use lib.Pow.{pow-add, pow_pos, pow_mono, pow-lt}
use lib.Ieee.{size, nearest}
use lib.Ieee.Digits.{size-lt, size-le, size_reaches}
use lib.Ieee.Fits.{nearest-le}
use lib.Ieee.Nearest.{closest}
use Rattle.numbers.proofs.Closest.{Cmp, cmp, closest-ge, closest-le}

-- how many digits are dropped, and n rounded
abbrev pub cut : ℕ → ℕ → ℕ
cut p n = size n - p

abbrev pub rounded : ℕ → ℕ → ℕ
rounded p n = closest n (2 ^ cut p n) * 2 ^ cut p n

-- powers of two joined and taken apart
pub joined : (q j k : ℕ) → q * 2 ^ j * 2 ^ k ≡ q * 2 ^ (j + k)
joined q j k = mul_assoc q (2 ^ j) (2 ^ k) ∙ ap (λ (x : ℕ). q * x) (sym (pow-add 2 j k))

pub apart : (q j k : ℕ) → k ≤ j → q * 2 ^ (j - k) * 2 ^ k ≡ q * 2 ^ j
apart q j k h = joined q (j - k) k ∙ ap (λ (x : ℕ). q * 2 ^ x) (sub-add_cancel h)

pub steps-le : (y c r : ℕ) → y ≤ 2 ^ c → y * 2 ^ r ≤ 2 ^ (c + r)
steps-le y c r h = le_trans (mul-le-mul_right (2 ^ r) h) (le_of_eq (sym (pow-add 2 c r)))

-- p digits are kept, or the carry to 2 ^ p
pub kept-few : (p n : ℕ) → closest n (2 ^ cut p n) ≤ 2 ^ p
kept-few p n =
    closest-le (2 ^ p) (2 ^ cut p n) n (pow_pos (cut p n))
    (le_trans (le_of_lt (size-lt n)) (le_trans (pow_mono (omega arith)) (le_of_eq (pow-add 2 p (cut p n)))))

-- the nearest whole number is half too large at most
half_over : (q r b : ℕ) (o : Ordering) → Cmp o (r * 2) b → nearest q o * b * 2 ≤ (q * b + r) * 2 + b
half_over q r b Ordering.lt h = omega arith
half_over q r b Ordering.eq h = omega (arith, mul-le-mul_right b (nearest-le q Ordering.eq))
half_over q r b Ordering.gt h = omega arith

closest-over : (n b : ℕ) → closest n b * b * 2 ≤ n * 2 + b
closest-over n b = rw div-add-mod' at (half_over (n / b) (n % b) b (compare (n % b * 2) b) (cmp (n % b * 2) b))

module _ (p n : ℕ) (P : 0 < p) where
  -- a power of two above stays above
  pub rounded-top : (m : ℕ) → n ≤ 2 ^ m → rounded p n ≤ 2 ^ m
  rounded-top m h =
      let s = size-le n (suc m) (lt_of_le_of_lt h (pow-lt (omega arith))) in
      let e = apart 1 m (cut p n) (omega arith) in
      le_trans (mul-le-mul_right (2 ^ cut p n) (closest-le (1 * 2 ^ (m - cut p n)) (2 ^ cut p n) n (pow_pos (cut p n)) (omega arith))) (omega arith)

  -- a number of p digits below stays below
  pub rounded-ge : (q j : ℕ) → q ≤ 2 ^ p → q * 2 ^ j ≤ n → q * 2 ^ j ≤ rounded p n
  rounded-ge q j Q h =
      elim (dec_le (cut p n) j) [
        | yes a ↦ let e = apart q j (cut p n) a in le_trans (le_of_eq (sym e)) (multiple (q * 2 ^ (j - cut p n)) (omega arith))
        | no a ↦
            let b = lt_of_not-le a in
            let reach = pow-add 2 (p - 1) (cut p n) in
            le_trans (mul-le-mul_right (2 ^ j) Q)
            (le_trans (le_of_eq (sym (pow-add 2 p j)))
            (le_trans (pow_mono (omega arith))
            (le_trans (le_of_eq reach) (multiple (2 ^ (p - 1)) (le_trans (le_of_eq (sym reach)) (size_reaches n (p - 1 + cut p n) (omega arith)))))))
      ]
    where
      multiple : (c : ℕ) → c * 2 ^ cut p n ≤ n → c * 2 ^ cut p n ≤ rounded p n
      multiple c k = mul-le-mul_right (2 ^ cut p n) (closest-ge c (2 ^ cut p n) n (pow_pos (cut p n)) k)

  -- so a power of two is its own
  pub rounded-power : (m : ℕ) → n ≡ 2 ^ m → rounded p n ≡ n
  rounded-power m e =
      le_antisymm (le_trans (rounded-top m (le_of_eq e)) (le_of_eq (sym e)))
      (le_trans (omega arith) (rounded-ge 1 m (pow_pos p) (omega arith)))

  -- it grows by half a unit of its last digit at most
  rounded-over : (j : ℕ) → n ≤ 2 ^ (p + suc j) → rounded p n ≤ n + 2 ^ j
  rounded-over j h =
      elim (eq-or-lt_of_le h) [
        | inl e ↦ le_trans (rounded-top (p + suc j) h) (omega arith)
        | inr l ↦
            let s = size-le n (p + suc j) l in
            let u : 2 ^ cut p n ≤ 2 ^ suc j = pow_mono (omega arith) in
            omega (arith, closest-over n (2 ^ cut p n))
      ]

-- ---- n up to 2 ^ (c + r), rounded, and cut to y steps of 2 ^ r
module _ (p c r n : ℕ) (P : 0 < p) (most : n ≤ 2 ^ (c + r)) where
  under : (g : ℕ) → g ≤ 2 ^ (c + r) → g / 2 ^ r ≤ 2 ^ c
  under g h = le_of_mul-le-mul_right (le_trans (div-mul-le_self g (2 ^ r)) (le_trans h (le_of_eq (pow-add 2 c r)))) (pow_pos r)

  pub steps-top : rounded p n / 2 ^ r ≤ 2 ^ c
  steps-top = under (rounded p n) (rounded-top p n P (c + r) most)

  -- not past n but for the rounding
  pub steps-over : (j : ℕ) → c + r ≡ p + suc j → rounded p n / 2 ^ r * 2 ^ r ≤ n + 2 ^ j
  steps-over j e = le_trans (div-mul-le_self (rounded p n) (2 ^ r)) (rounded-over p n P j (rw e at most))

  -- less than a step short, where p digits hold the steps: rounding does not cross a whole number of them
  pub steps-under : c ≤ p → n < rounded p n / 2 ^ r * 2 ^ r + 2 ^ r
  steps-under few =
      let g = rounded-ge p n P (n / 2 ^ r) r (le_trans (under n most) (pow_mono few)) (div-mul-le_self n (2 ^ r)) in
      let k = (le-div_iff_mul-le (pow_pos r)).1 g in
      omega (arith, lt-div-mul-add {a = n} (pow_pos r), mul-le-mul_right (2 ^ r) k)
