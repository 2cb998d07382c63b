-- The floor of a number that is not above 0 is exact, and the number less its floor lies from 0 to 1.
-- Assumes nothing.
use Rattle.std.proofs.Common.{◌≡◌, ℕ, suc, ◌+◌, ◌-◌, ◌*◌, ◌/◌, ◌^◌, ◌<◌, ◌≤◌, Bool, true, false, not, ℤ, pos, negsuc, sym, refl, ◌∙◌, le_trans, le_of_suc-le-suc, add-zero, le_of_lt, mul-le-mul_right, div-lt_iff_lt-mul, mul-le-mul_left, mul-one, sub-add_cancel, div-mul-le_self, le_of_mul-le-mul_right, div-one, arith, lit<, pow_pos}
use native.Mathlib.Nat.{lt-div-mul-add}
use lib.Ieee.{Float, fin, Format, binary64, prec, emax, low, up, down, round, neg, sub, of_int}
use lib.Ieee.Exact.{HasValue, round_exact}
use lib.Ieee.Back.{round_whole}
use lib.Ieee.Fits.{down_pos}
use lib.Ieee.Scale.{overflow}
use Rattle.imapb.proofs.Rounded.{joined}
use Rattle.imapb.proofs.Units.{Counts, by_value, neg-counts}
use Rattle.imapb.proofs.Mapped.{wide}
use Rattle.imapb.proofs.UnitRange.{counted}
use Rattle.imapb.proofs.Exact.{again}
use Rattle.ranges.specs.Floor.{ceiling, floor_of, Falls}
use Rattle.ranges.proofs.Field.{few-digits}
use Rattle.ranges.proofs.Scaled.{Upto, below_power, add-upto}

-- ---- the ceiling of a / c
module _ (a c : ℕ) (C : 0 < c) where
  ceiling-ge : a ≤ ceiling a c * c
  ceiling-ge = omega (arith, lt-div-mul-add {a = a + (c - 1)} C)

  ceiling-le : ceiling a c * c ≤ a + c
  ceiling-le = omega (arith, div-mul-le_self (a + (c - 1)) c)

-- ---- a format that holds m * 2 ^ e holds its ceiling: a whole number is its own, and that of another is m at most
ceiling-held : (f : Format) (m : ℕ) (e : ℤ) → m < 2 ^ prec f → m * up e < 2 ^ 64 * down e → HasValue (round f false (ceiling (m * up e) (down e)) 1) false (ceiling (m * up e) (down e)) 1
ceiling-held f m (pos k) d h =
    let n = m * 2 ^ k in
    let e : n * 2 ^ low f ≡ m * 2 ^ (k + low f) = joined m k (low f) in
    let small : n * 2 ^ low f < overflow f = below_power n 64 (low f) (low f + suc (emax f)) (omega arith) (omega (arith, wide f)) in
    rw (div-one (n + 0), add-zero n) (round_exact f false n 1 m (k + low f) (lit< tt) d (rw e at small) (e ∙ sym (mul-one (m * 2 ^ (k + low f)))))
ceiling-held f m (negsuc k) d h =
    let D = pow_pos (suc k) in
    round_whole f false (ceiling (m * 1) (2 ^ suc k))
    (le_trans (le_of_suc-le-suc ((div-lt_iff_lt-mul D).1 (omega (arith, mul-le-mul_left m D)))) (le_of_lt d))

-- ---- the floor of such a number
negated : (x : Float) (s : Bool) (a c : ℕ) → HasValue x s a c → HasValue (neg x) (not s) a c
unfolding neg
negated x s a c = by_value (λ (z : Float). HasValue (neg z) (not s) a c) s a c (λ m e k. (refl, k)) x

pub floor-exact : {x : Float} (h : Falls x) → HasValue (floor_of x) true (ceiling (h.size * up h.exponent) (down h.exponent)) 1
unfolding floor_of of_int
floor-exact h =
    let m = h.size in
    let e = h.exponent in
    let c = ceiling (m * up e) (down e) in
    rw h.is (negated (round binary64 false c 1) false c 1 (ceiling-held binary64 m e (few-digits binary64 true m e (rw h.is at h.held)) h.few))

-- ---- a number of either format less one that is not above it, and not below it by more than 1
less_upto : (f : Format) (x y : Float) (a w : ℕ) → Counts f x true a → Counts f y true w → a ≤ w → w ≤ a + 2 ^ low f → Upto f (sub f x y) false (1 * 2 ^ low f)
unfolding sub
less_upto f x y a w c d h k =
    add-upto f x (neg y) w (w - a) 1 (low f) (record { sign = true; size = a; counts = c; over = sub-add_cancel h }) (neg-counts f y true w d)
    (pow_pos (prec f)) (below_power 1 1 (low f) (low f + suc (emax f)) (lit< tt) (omega arith)) (omega arith)

-- n / d is a / l, and c its ceiling
module _ (n d c l a : ℕ) (D : 0 < d) (e : n * l ≡ a * d) where
  from-below : n ≤ c * d → a ≤ c * l
  from-below h = le_of_mul-le-mul_right (omega (arith, mul-le-mul_right l h)) D

  from-above : c * d ≤ n + d → c * l ≤ a + l
  from-above h = le_of_mul-le-mul_right (omega (arith, mul-le-mul_right l h)) D

pub less-floor : {x : Float} → Falls x → Upto binary64 (sub binary64 x (floor_of x)) false (2 ^ 1074)
less-floor {x} h =
    let m = h.size in
    let e = h.exponent in
    let d = down e in
    let D = down_pos e in
    let n = m * up e in
    let c = ceiling n d in
    let l = 2 ^ 1074 in
    let a = n * l / d in
    let v : Counts binary64 (fin true m e) true a = counted binary64 true m e (rw h.is at h.held) in
    less_upto binary64 x (floor_of x) a (c * l) (rw h.is v)
    (again (floor_of x) true c 1 (c * l) l (lit< tt) (floor-exact h) (sym (mul-one (c * l))))
    (from-below n d c l a D v.1 (ceiling-ge n d D)) (from-above n d c l a D v.1 (ceiling-le n d D))
