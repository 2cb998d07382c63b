-- Numbers counted from a least one, -w units: the sum that reaches the count, and the difference that takes it back.
-- Assumes nothing.
use mathlib.Core.Path.{◌≡◌, ap, ◌∙◌}
use mathlib.Core.Bool.{Bool, true, false}
use Prim.Native.Nat.{ℕ, ◌+◌, ◌-◌, ◌*◌, ◌^◌, ◌≤◌, ◌<◌}
use native.Mathlib.Nat.{le_of_lt, lt_of_not-le, sub-add_cancel, mul-pos}
use native.Mathlib.Decide.{dec_le}
use native.Mathlib.Omega.{arith}
use borrow.Author.Tests.{lt-ltb, le-ltb}
use lib.Pow.{pow_pos}
use lib.Ieee.{Float, Format, prec, low, round, sum, add, sub, neg}
use lib.Ieee.Scale.{overflow}
use Rattle.imapb.proofs.Units.{Counts, exact, neg-counts, add_is}

-- ±a + w is n, negative where the sign is true
abbrev pub Over : Bool → ℕ → ℕ → ℕ → Type 0
Over false a w n = a + w ≡ n
Over true a w n = n + a ≡ w

-- x is a number, n units above -w
pub record Lies (f : Format) (w n : ℕ) (x : Float) : Type 0 where
  pub sign : Bool
  pub size : ℕ
  pub counts : Counts f x sign size
  pub over : Over sign size w n

-- ---- the sum with w units
sum_over : (f : Format) (s : Bool) (a w n c : ℕ) → Over s a w n → sum f s a false w c ≡ round f false n c
unfolding sum
sum_over f false a w n c h = ap (λ (z : ℕ). round f false z c) h
sum_over f true a w n c h =
    elim (dec_le w a) [
      | yes k ↦ rw (le-ltb a w k, le-ltb w a (omega arith)) (ap (λ (z : ℕ). round f false z c) (omega arith))
      | no k ↦ rw (lt-ltb a w (lt_of_not-le k)) (ap (λ (z : ℕ). round f false z c) (omega arith))
    ]

pub add-over : (f : Format) (v shift : Float) (w n : ℕ) → Lies f w n v → Counts f shift false w → add f v shift ≡ round f false n (2 ^ low f)
add-over f v shift w n l h = add_is f v shift l.sign false l.size w l.counts h ∙ sum_over f l.sign l.size w n (2 ^ low f) l.over

-- ---- the difference of g and w units, by the sign of what is left
module _ (f : Format) (x shift : Float) (g w : ℕ) (h : Counts f x false g) (k : Counts f shift false w) where
  sub_is : sub f x shift ≡ sum f false g true w (2 ^ low f)
  unfolding sub
  sub_is = add_is f x (neg shift) false true g w h (neg-counts f shift false w k)

  pub sub-up : (d : ℕ) → d + w ≡ g → sub f x shift ≡ round f false d (2 ^ low f)
  unfolding sum
  sub-up d e = sub_is ∙ rw (le-ltb g w (omega arith)) (ap (λ (z : ℕ). round f false z (2 ^ low f)) (omega arith))

  pub sub-down : (d : ℕ) → 0 < d → g + d ≡ w → sub f x shift ≡ round f true d (2 ^ low f)
  unfolding sum
  sub-down d D e = sub_is ∙ rw (lt-ltb g w (omega arith)) (ap (λ (z : ℕ). round f true z (2 ^ low f)) (omega arith))

-- of whole steps of 2 ^ r units that differ by no more than the format's digits hold, it is exact
pub sub_lies : (f : Format) (x shift : Float) (y w r : ℕ) → Counts f x false (y * 2 ^ r) → Counts f shift false (w * 2 ^ r)
    → y ≤ w + 2 ^ prec f → w ≤ y + 2 ^ prec f → y * 2 ^ r < overflow f → w * 2 ^ r < overflow f → Lies f (w * 2 ^ r) (y * 2 ^ r) (sub f x shift)
sub_lies f x shift y w r h k Y W oy ow =
    let S = 2 ^ r in
    elim (dec_le w y) [
      | yes l ↦
          let d : (y - w) * S + w * S ≡ y * S = omega (arith, ap (λ (z : ℕ). z * S) (sub-add_cancel l)) in
          let c : Counts f (sub f x shift) false ((y - w) * S) = rw (sub-up f x shift (y * S) (w * S) h k ((y - w) * S) d) (exact f false (y - w) r (omega arith) (omega arith)) in
          record { sign = false; size = (y - w) * S; counts = c; over = d }
      | no l ↦
          let m = lt_of_not-le l in
          let d : y * S + (w - y) * S ≡ w * S = omega (arith, ap (λ (z : ℕ). z * S) (sub-add_cancel (le_of_lt m))) in
          let c : Counts f (sub f x shift) true ((w - y) * S) = rw (sub-down f x shift (y * S) (w * S) h k ((w - y) * S) (mul-pos (omega arith) (pow_pos r)) d) (exact f true (w - y) r (omega arith) (omega arith)) in
          record { sign = true; size = (w - y) * S; counts = c; over = d }
    ]
