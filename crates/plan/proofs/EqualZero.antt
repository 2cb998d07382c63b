-- What the definition takes for zero is what IEEE 754 holds equal to 0: +0.0 and -0.0, and no other number, infinity
-- or NaN.
-- Assumes nothing.
use mathlib.Core.Path.{◌≡◌, refl, sym, ◌∙◌}
use mathlib.Core.Bool.{Bool, true, false, cond}
use mathlib.Core.Logic.{inl, inr}
use Prim.Native.Nat.{ℕ, zero, suc, ◌+◌, ◌*◌, ◌/◌, ◌%◌, ◌^◌, ◌≤◌, ◌<◌}
use native.Mathlib.Nat.{zero-mul, mul-pos, eq-or-lt_of_le}
use native.Mathlib.Omega.{arith}
use borrow.Author.Tests.{ne_eqb}
use lib.Dec.{eqb, leb}
use lib.IntN.{pos}
use lib.Pow.{pow_pos}
use lib.Ieee.{Float, nan, inf, fin, binary64, up, down, level, of_fields, of_bits, eq}
use lib.Ieee.Exact.{HasValue}
use lib.Ieee.Fits.{down_pos}
use Rattle.numbers.proofs.Patterns.{subnormal-value, normal-value}
use Rattle.plan.specs.Zero.{is_zero}

abbrev zero_value : Float
zero_value = fin false 0 (pos 0)

leveled : (t : Bool) (a b : ℕ) → b ≡ 0 → level t a false b ≡ eqb a 0
leveled true zero b e = rw e
leveled false zero b e = rw e
leveled t (suc a) b e = rw (e, ne_eqb (suc a) 0 (omega arith))

same-zero : (n a c d : ℕ) → 0 < c → 0 < d → n * c ≡ a * d → eqb (n * 1) 0 ≡ eqb a 0
same-zero zero zero c d C D e = refl
same-zero zero (suc a) c d C D e = absurd (omega (arith, zero-mul c, mul-pos {m = suc a} {n = d} (omega arith) D))
same-zero (suc n) zero c d C D e = absurd (omega (arith, zero-mul d, mul-pos {m = suc n} {n = c} (omega arith) C))
same-zero (suc n) (suc a) c d C D e = rw (ne_eqb (suc n * 1) 0 (omega arith), ne_eqb (suc a) 0 (omega arith))

-- a number of the size a / c is 0 where a is
sized : (x : Float) (s : Bool) (a c : ℕ) → 0 < c → HasValue x s a c → eq x zero_value ≡ eqb a 0
unfolding eq
sized nan s a c C h = absurd h
sized (inf t) s a c C h = absurd h
sized (fin t m e) s a c C h = leveled t (m * up e * 1) (0 * 1 * down e) (zero-mul (down e)) ∙ same-zero (m * up e) a c (down e) C (down_pos e) h.1

no_number : (s z : Bool) → eq (cond z (inf s) nan) zero_value ≡ false
unfolding eq
no_number s true = refl
no_number s false = refl

fields : (s : Bool) (x t : ℕ) → x ≤ 2047 → eq (of_fields binary64 s x t) zero_value ≡ eqb (x * 2 ^ 52 + t) 0
fields s zero t h =
    let e : 0 * 2 ^ 52 + t ≡ t * 2 ^ 0 = omega arith in
    rw e (sized (of_fields binary64 s 0 t) s (t * 2 ^ 0) (2 ^ 1074) (pow_pos 1074) (subnormal-value binary64 s t))
fields s (suc j) t h =
    let some : eqb (suc j * 2 ^ 52 + t) 0 ≡ false = ne_eqb (suc j * 2 ^ 52 + t) 0 (omega arith) in
    elim (eq-or-lt_of_le h) [
      | inl e ↦ rw some (rw e (unfold of_fields in no_number s (eqb t 0)))
      | inr l ↦
          sized (of_fields binary64 s (suc j) t) s ((2 ^ 52 + t) * 2 ^ j) (2 ^ 1074) (pow_pos 1074) (normal-value binary64 s j t l)
          ∙ rw some (ne_eqb ((2 ^ 52 + t) * 2 ^ j) 0 (omega (arith, mul-pos {m = 2 ^ 52 + t} {n = 2 ^ j} (omega arith) (pow_pos j))))
    ]

pub zero_is : (c : ℕ) → is_zero c ≡ eq (of_bits binary64 c) zero_value
unfolding of_bits
zero_is c =
    let e : c % 2 ^ 63 / 2 ^ 52 * 2 ^ 52 + c % 2 ^ 52 ≡ c % 2 ^ 63 = omega arith in
    sym (rw e at (fields (leb (2 ^ 63) c) (c % 2 ^ 63 / 2 ^ 52) (c % 2 ^ 52) (omega arith)))
