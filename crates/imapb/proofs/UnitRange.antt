-- The range -1 to 1 in units: a value of the format in it is a whole number of them, and lies up to two ones above -1.
-- Assumes nothing.
use mathlib.Core.Path.{◌≡◌, refl, sym, ap, ◌∙◌}
use mathlib.Core.Bool.{Bool, true, false, ◌&&◌, ◌||◌}
use Prim.Native.Nat.{ℕ, zero, suc, ◌+◌, ◌-◌, ◌*◌, ◌/◌, ◌%◌, ◌^◌, ◌≤◌, ◌<◌}
use native.Mathlib.Nat.{le_trans, le_of_eq, le_of_lt, lt_of_not-le, not-le_of_lt, zero-mul, zero-div, mul-one, div-one, mul_assoc, pow-succ', mul-le-mul_right, le_of_mul-le-mul_right, mul-div_cancel, sub-add_cancel}
use native.Mathlib.Decide.{dec_le}
use native.Mathlib.Omega.{arith}
use borrow.Author.Tests.{le-ltb}
use lib.Dec.{T, leb, ltb, eqb, leb→le, eqb→eq}
use lib.IntN.{ℤ, pos, negsuc}
use lib.Pow.{pow-add, pow_pos, pow_mono, pow-lt}
use lib.Ieee.{Float, nan, inf, fin, Format, binary64, prec, emax, low, up, down, le, fits}
use lib.Ieee.Fits.{and_l, and_r, down_pos}
use Rattle.imapb.specs.Mapping.{one, minus_one, in_range}
use Rattle.imapb.proofs.Rounded.{apart}
use Rattle.imapb.proofs.Units.{Counts}
use Rattle.imapb.proofs.Mapped.{Range, Placed}

-- ---- a value of the format is a whole number of units
divides : (e : ℤ) (l a : ℕ) → down e ≤ 2 ^ l → a * 2 ^ l ≡ a * 2 ^ l / down e * down e
divides (pos k) l a h = sym (mul-one (a * 2 ^ l / 1) ∙ div-one (a * 2 ^ l))
divides (negsuc k) l a h =
    let d : suc k ≤ l = elim (dec_le (suc k) l) [ yes g ↦ g | no g ↦ absurd (not-le_of_lt (pow-lt (lt_of_not-le g)) h) ] in
    let e = apart a l (suc k) d in
    sym (ap (λ (x : ℕ). x / 2 ^ suc k * 2 ^ suc k) (sym e) ∙ ap (λ (x : ℕ). x * 2 ^ suc k) (mul-div_cancel (a * 2 ^ (l - suc k)) (pow_pos (suc k))) ∙ e)

pub counted : (f : Format) (s : Bool) (m : ℕ) (e : ℤ) → T (fits f (fin s m e)) → Counts f (fin s m e) s (m * up e * 2 ^ low f / down e)
unfolding fits
counted f s zero e t = (refl, simp (zero-mul, zero-div))
counted f s (suc m) e t =
    let a : Bool = eqb (suc m % 2) 1 && ltb (suc m) (2 ^ prec f) in
    let b : Bool = leb (down e) (2 ^ low f) in
    let c : Bool = ltb (suc m * up e) (2 ^ suc (emax f) * down e) in
    (refl, divides e (low f) (suc m * up e) (leb→le (down e) (2 ^ low f) (and_r a b (and_l (a && b) c t))))

-- ---- in the range its size is 1 at most
at_most : (a b : ℕ) (x : Bool) → (T x → a ≡ b) → T (ltb a b || (x && true)) → a ≤ b
at_most a b true k h = le_of_eq (k tt)
at_most a b false k h = elim (dec_le a b) [ yes l ↦ l | no l ↦ absurd (rw (le-ltb a b (le_of_lt (lt_of_not-le l))) at h) ]

size-le-one : (s : Bool) (m : ℕ) (e : ℤ) → T (in_range (fin s m e)) → m * up e * 1 ≤ 1 * 1 * down e
unfolding le
size-le-one false m e h =
    let a = m * up e * 1 in
    let d = 1 * 1 * down e in
    at_most a d (eqb a d) (eqb→eq a d) (and_r (le minus_one (fin false m e)) (le (fin false m e) one) h)
size-le-one true m e h =
    let a = m * up e * 1 in
    let d = 1 * 1 * down e in
    at_most a d (eqb d a) (λ x. sym (eqb→eq d a x)) (and_l (le minus_one (fin true m e)) (le (fin true m e) one) h)

-- ---- the range, whose ends are 2 ^ t steps of 2 ^ r units from 0
module _ (f : Format) (t r : ℕ) (split : r + t ≡ low f) where
  pub ones : 2 ^ t * 2 ^ r ≡ 2 ^ low f
  ones = sym (pow-add 2 t r) ∙ ap (λ (x : ℕ). 2 ^ x) (omega arith)

  pub unit-range : suc t < 64 → Range f one (2 ^ t) (suc t) t r
  unit-range h = record { codes = h; split = split; start = (refl, omega (arith, ones)); zero_in = pow_mono (omega arith) }

  long : 2 ^ (suc t + r) ≡ 2 * (2 ^ t * 2 ^ r)
  long = pow-add 2 (suc t) r ∙ ap (λ (x : ℕ). x * 2 ^ r) (pow-succ' 2 t) ∙ mul_assoc 2 (2 ^ t) (2 ^ r)

  place : (x : Float) (s : Bool) (a : ℕ) → Counts f x s a → a ≤ 2 ^ t * 2 ^ r → Placed f (2 ^ t) (suc t) r x
  place x false a c k = record { count = a + 2 ^ t * 2 ^ r; lies = record { sign = false; size = a; counts = c; over = refl }; most = omega (arith, long) }
  place x true a c k = record { count = 2 ^ t * 2 ^ r - a; lies = record { sign = true; size = a; counts = c; over = sub-add_cancel k }; most = omega (arith, long) }

  pub placed : (v : Float) → T (fits f v) → T (in_range v) → Placed f (2 ^ t) (suc t) r v
  unfolding le
  placed nan h k = absurd k
  placed (inf true) h k = absurd k
  placed (inf false) h k = absurd k
  placed (fin s m e) h k =
      let c = counted f s m e h in
      let d = mul-le-mul_right (2 ^ low f) (size-le-one s m e k) in
      place (fin s m e) s (m * up e * 2 ^ low f / down e) c (le_trans (le_of_mul-le-mul_right (omega (arith, c.1)) (down_pos e)) (le_of_eq (sym ones)))

-- ---- for a code of L bytes: the scale is 2 ^ (8L - 2), and a step 2 ^ (1076 - 8L) units
abbrev pub step : ℕ → ℕ
step L = 1076 - 8 * L

module _ (L : ℕ) (least : 1 ≤ L) (most : L ≤ 8) where
  pub split-of : step L + (8 * L - 2) ≡ 1074
  split-of = omega arith

  pub range-of : Range binary64 one (2 ^ (8 * L - 2)) (suc (8 * L - 2)) (8 * L - 2) (step L)
  range-of = unit-range binary64 (8 * L - 2) (step L) split-of (omega arith)

  pub place_of : (v : Float) → T (fits binary64 v) → T (in_range v) → Placed binary64 (2 ^ (8 * L - 2)) (suc (8 * L - 2)) (step L) v
  place_of = placed binary64 (8 * L - 2) (step L) split-of
