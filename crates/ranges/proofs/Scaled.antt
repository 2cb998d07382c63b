-- What is rounded stays up to a bound that has few digits, and so does a number times a power of two, above 1 or below.
-- Assumes nothing.
use Rattle.std.proofs.Common.{◌≡◌, ℕ, suc, ◌+◌, ◌-◌, ◌*◌, ◌/◌, ◌^◌, ◌<◌, ◌≤◌, Bool, false, pos, sym, ap₂, le_trans, le_of_eq, lt_of_lt_of_le, lt_of_le_of_lt, le_of_lt, mul-le-mul_right, mul-le-mul_left, mul-pos, lt_of_not-le, div-mul-le_self, le_of_mul-le-mul_right, arith, lit<, pow_pos, pow_mono, pow-add, shl_lt}
use native.Mathlib.Decide.{dec_le}
use lib.Ieee.{Float, fin, Format, prec, emax, low, unlike, up, down, minus, round, add, mul, of_int}
use lib.Ieee.Digits.{size_reaches}
use lib.Ieee.Exact.{HasValue, units_val}
use lib.Ieee.Fits.{down_pos, two, two-le_pos, round_is}
use lib.Ieee.Order.{drop, kept, round_mono}
use lib.Ieee.Positive.{positive_of_value, values_of_le}
use lib.Ieee.Scale.{round_same, grid, overflow}
use Rattle.numbers.proofs.Closest.{closest-le}
use Rattle.imapb.proofs.Rounded.{joined, apart, steps-le}
use Rattle.imapb.proofs.Units.{Counts, by_value, exact}
use Rattle.imapb.proofs.Above.{Lies, add-over}
use Rattle.imapb.proofs.Mapped.{wide}
use Rattle.ranges.proofs.Order.{power-is}

-- x is a number of n units at most
abbrev pub Upto : Format → Float → Bool → ℕ → Type 0
Upto f x s n = (a : ℕ) × Counts f x s a × (a ≤ n)

-- q has at most c digits
pub below_power : (q c j n : ℕ) → q < 2 ^ c → c + j ≤ n → q * 2 ^ j < 2 ^ n
below_power q c j n h k = lt_of_lt_of_le (shl_lt c j h) (pow_mono k)

-- ---- a fraction up to q * 2 ^ j units, rounded
grid-le : (f : Format) (a c q j : ℕ) → 0 < c → q ≤ 2 ^ prec f → a * 2 ^ low f ≤ q * 2 ^ j * c → grid f a c ≤ q * 2 ^ j
grid-le f a c q j C Q h =
    let p = prec f in
    let P = two-le_pos p (two f) in
    let k = drop p n c in
    elim (dec_le k j) [
      | yes g ↦ let e = apart q j k g in le_trans (within (q * 2 ^ (j - k)) (le_trans h (mul-le-mul_right c (le_of_eq (sym e))))) (le_of_eq e)
      | no g ↦
          let l = lt_of_not-le g in
          let e = pow-add 2 (p - 1) k in
          let over : q * 2 ^ j ≤ 2 ^ (p - 1) * 2 ^ k = le_trans (steps-le q p j Q) (le_trans (pow_mono {j = p - 1 + k} (omega arith)) (le_of_eq e)) in
          let reach : 2 ^ (p - 1 + k) ≤ n / c = size_reaches (n / c) (p - 1 + k) (omega arith) in
          le_trans (within (2 ^ (p - 1)) (le_trans h (mul-le-mul_right c over)))
          (le_trans (le_of_eq (sym e)) (le_trans reach (le_of_mul-le-mul_right (le_trans (div-mul-le_self n c) h) C)))
    ]
  where
    n : ℕ
    n = a * 2 ^ low f

    within : (r : ℕ) → n ≤ r * 2 ^ drop (prec f) n c * c → grid f a c ≤ r * 2 ^ drop (prec f) n c
    within r g =
        let k = drop (prec f) n c in
        mul-le-mul_right (2 ^ k) (closest-le r (c * 2 ^ k) n (mul-pos C (pow_pos k)) (omega arith))

pub round-upto : (f : Format) (s : Bool) (a c q j : ℕ) → 0 < c → q ≤ 2 ^ prec f → q * 2 ^ j < overflow f → a * 2 ^ low f ≤ q * 2 ^ j * c → Upto f (round f s a c) s (q * 2 ^ j)
round-upto f s a c q j C Q o h =
    let g = grid-le f a c q j C Q h in
    (grid f a c, rw (round_is f s a c) (units_val f s (kept (prec f) (a * 2 ^ low f) c) (drop (prec f) (a * 2 ^ low f) c) (lt_of_le_of_lt g o)), g)

-- a sum
pub add-upto : (f : Format) (v shift : Float) (w n q j : ℕ) → Lies f w n v → Counts f shift false w → q ≤ 2 ^ prec f → q * 2 ^ j < overflow f → n ≤ q * 2 ^ j → Upto f (add f v shift) false (q * 2 ^ j)
add-upto f v shift w n q j l k Q o h =
    rw (add-over f v shift w n l k) (round-upto f false n (2 ^ low f) q j (pow_pos (low f)) Q o (mul-le-mul_right (2 ^ low f) h))

-- and from q * 2 ^ j units on it stays from there on
pub round-from : (f : Format) (x : Float) (n a q j : ℕ) → x ≡ round f false n (2 ^ low f) → Counts f x false a → 0 < a → 0 < q → q ≤ 2 ^ prec f → q * 2 ^ j < overflow f → q * 2 ^ j ≤ n → q * 2 ^ j ≤ a
round-from f x n a q j e c A K Q o h =
    let u = 2 ^ low f in
    let U = pow_pos (low f) in
    let y = round f false (q * 2 ^ j) u in
    let d = exact f false q j Q o in
    le_of_mul-le-mul_right
    (values_of_le y x (q * 2 ^ j) u a u (positive_of_value y (q * 2 ^ j) u d (mul-pos K (pow_pos j))) (positive_of_value x a u c A) d c
    (rw e (round_mono f (q * 2 ^ j) u n u U U (mul-le-mul_right u h))))
    U

-- the nearest value of a code is 2 ^ 64 at most
pub int-upto : (f : Format) (y : ℕ) → y < 2 ^ 64 → Upto f (of_int f (pos y)) false (1 * 2 ^ (64 + low f))
unfolding of_int
int-upto f y h =
    round-upto f false y 1 1 (64 + low f) (lit< tt) (pow_pos (prec f)) (below_power 1 1 (64 + low f) (low f + suc (emax f)) (lit< tt) (omega (arith, wide f)))
    (omega (arith, steps-le y 64 (low f) (le_of_lt h)))

-- ---- a product is that of the values, rounded once
pub mul-value : (f : Format) (x y : Float) (s t : Bool) (a b c d : ℕ) → 0 < c → 0 < d → HasValue x s a c → HasValue y t b d → mul f x y ≡ round f (unlike s t) (a * b) (c * d)
unfolding mul
mul-value f x y s t a b c d C D h k =
    by_value (λ (x : Float). mul f x y ≡ round f (unlike s t) (a * b) (c * d)) s a c
    (λ u e p. by_value (λ (y : Float). mul f (fin s u e) y ≡ round f (unlike s t) (a * b) (c * d)) t b d
    (λ v g q. round_same f (unlike s t) (u * up e * (v * up g)) (down e * down g) (a * b) (c * d) (mul-pos (down_pos e) (down_pos g)) (mul-pos C D)
    (omega (arith, ap₂ (λ (w z : ℕ). w * z) p q)))
    y k)
    x h

pub mul-upto : (f : Format) (x y : Float) (s t : Bool) (a b c d q j : ℕ) → 0 < c → 0 < d → HasValue x s a c → HasValue y t b d → q ≤ 2 ^ prec f → q * 2 ^ j < overflow f
    → a * b * 2 ^ low f ≤ q * 2 ^ j * (c * d) → Upto f (mul f x y) (unlike s t) (q * 2 ^ j)
mul-upto f x y s t a b c d q j C D h k Q o l = rw (mul-value f x y s t a b c d C D h k) (round-upto f (unlike s t) (a * b) (c * d) q j (mul-pos C D) Q o l)

-- times 2 ^ (p - t), a number up to q * 2 ^ i units
pub scale-upto : (f : Format) (p t : ℕ) (x : Float) (s : Bool) (a q i j : ℕ) → Counts f x s a → q ≤ 2 ^ prec f → q * 2 ^ j < overflow f → i + p ≤ j + t → a ≤ q * 2 ^ i → Upto f (mul f (fin false 1 (minus p t)) x) (unlike false s) (q * 2 ^ j)
scale-upto f p t x s a q i j c Q o e h =
    let u = 2 ^ low f in
    let m : q * 2 ^ i * 2 ^ p ≤ q * 2 ^ j * 2 ^ t = le_trans (le_of_eq (joined q i p)) (le_trans (mul-le-mul_left q (pow_mono e)) (le_of_eq (sym (joined q j t)))) in
    let b : a * 2 ^ p ≤ q * 2 ^ j * 2 ^ t = le_trans (mul-le-mul_right (2 ^ p) h) m in
    mul-upto f (fin false 1 (minus p t)) x false s (2 ^ p) a (2 ^ t) u q j (pow_pos t) (pow_pos (low f)) (power-is p t) c Q o (omega (arith, mul-le-mul_right u b))
