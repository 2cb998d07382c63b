-- The sum with 1 of a number from -1 to 1 is a whole number of steps of 2 ^ -prec, where the format's digits are
-- `prec`.
-- Assumes nothing.
use mathlib.Core.Path.{◌≡◌, refl, sym, ap, ◌∙◌}
use mathlib.Core.Bool.{Bool, true, false, ◌&&◌}
use Prim.Native.Nat.{ℕ, zero, suc, ◌+◌, ◌-◌, ◌*◌, ◌%◌, ◌^◌, ◌≤◌, ◌<◌}
use native.Mathlib.Nat.{le_trans, le_of_eq, le_of_lt, le_antisymm, lt_of_not-le, not-le_of_lt, lt_of_lt_of_le, mul-one, pow-succ', le_of_mul-le-mul_right, eq_of_mul-eq-mul_right, sub-add_cancel}
use native.Mathlib.Decide.{dec_le}
use native.Mathlib.Omega.{arith}
use lib.Dec.{T, leb, ltb, eqb, leb→le, ltb→lt}
use lib.IntN.{ℤ, pos, negsuc}
use lib.Pow.{pow_pos, pow_mono, pow-lt, shl_lt}
use lib.Ieee.{Float, fin, Format, prec, emax, low, up, down, fits}
use lib.Ieee.Digits.{size-lt}
use lib.Ieee.Fits.{and_l, and_r, down_pos, two}
use lib.Ieee.Nearest.{closest}
use Rattle.numbers.proofs.Closest.{closest-ge, closest-le}
use Rattle.imapb.proofs.Rounded.{cut, joined, apart}
use Rattle.imapb.proofs.Units.{by_value}
use Rattle.imapb.proofs.Above.{Over}
use Rattle.imapb.proofs.Mapped.{rounded_in, Placed}
use Rattle.imapb.proofs.UnitRange.{ones}

-- g is a whole number of steps of 2 ^ r
pub record Steps (r g : ℕ) : Type 0 where
  pub count : ℕ
  pub is : g ≡ count * 2 ^ r

coarser : (r q j : ℕ) {g : ℕ} → g ≡ q * 2 ^ j → r ≤ j → Steps r g
coarser r q j e h = record { count = q * 2 ^ (j - r); is = e ∙ sym (apart q j r h) }

left : (r w a n : ℕ) → n + a ≡ w * 2 ^ r → Steps r a → Steps r n
left r w a n o b =
    let k : b.count ≤ w = le_of_mul-le-mul_right (omega (arith, b.is)) (pow_pos r) in
    record { count = w - b.count; is = omega (arith, b.is, ap (λ (x : ℕ). x * 2 ^ r) (sub-add_cancel k)) }

-- a finer step rounds nothing
kept_whole : (r k n : ℕ) → k ≤ r → Steps r n → Steps r (closest n (2 ^ k) * 2 ^ k)
kept_whole r k n h s = record { count = s.count; is = go (s.count * 2 ^ (r - k)) (apart s.count r k h ∙ sym s.is) ∙ s.is }
  where
    go : (q : ℕ) → q * 2 ^ k ≡ n → closest n (2 ^ k) * 2 ^ k ≡ n
    go q e = ap (λ (x : ℕ). x * 2 ^ k) (le_antisymm (closest-le q (2 ^ k) n (pow_pos k) (le_of_eq (sym e))) (closest-ge q (2 ^ k) n (pow_pos k) (le_of_eq e))) ∙ e

-- ---- what the format holds has no more than its digits
record Digits (f : Format) (a : ℕ) : Type 0 where
  pub kept : ℕ
  pub zeros : ℕ
  pub is : a ≡ kept * 2 ^ zeros
  pub few : kept < 2 ^ prec f

module _ (f : Format) where
  fitting : (s : Bool) (m : ℕ) (e : ℤ) → T (fits f (fin s (suc m) e)) → (suc m < 2 ^ prec f) × (down e ≤ 2 ^ low f)
  unfolding fits
  fitting s m e t =
      let x : Bool = eqb (suc m % 2) 1 in
      let y : Bool = ltb (suc m) (2 ^ prec f) in
      let z : Bool = leb (down e) (2 ^ low f) in
      let u : T (x && y && z) = and_l (x && y && z) (ltb (suc m * up e) (2 ^ suc (emax f) * down e)) t in
      (ltb→lt (suc m) (2 ^ prec f) (and_r x y (and_l (x && y) z u)), leb→le (down e) (2 ^ low f) (and_r (x && y) z u))

  digits_of : (s : Bool) (m : ℕ) (e : ℤ) (a : ℕ) → m * up e * 2 ^ low f ≡ a * down e → T (fits f (fin s m e)) → Digits f a
  digits_of s zero e a c t =
      record { kept = 0; zeros = 0; is = eq_of_mul-eq-mul_right (down e) (down_pos e) a (0 * 2 ^ 0) (omega arith); few = pow_pos (prec f) }
  digits_of s (suc m) (pos k) a c t =
      record { kept = suc m; zeros = k + low f; is = sym (mul-one a) ∙ sym c ∙ joined (suc m) k (low f); few = (fitting s m (pos k) t).0 }
  digits_of s (suc m) (negsuc k) a c t =
      let h = fitting s m (negsuc k) t in
      let d : suc k ≤ low f = elim (dec_le (suc k) (low f)) [ yes g ↦ g | no g ↦ absurd (not-le_of_lt (pow-lt (lt_of_not-le g)) h.1) ] in
      record {
        kept = suc m;
        zeros = low f - suc k;
        is = eq_of_mul-eq-mul_right (2 ^ suc k) (pow_pos (suc k)) a (suc m * 2 ^ (low f - suc k)) (sym c ∙ ap (λ (i : ℕ). i * 2 ^ low f) (mul-one (suc m)) ∙ sym (apart (suc m) (low f) (suc k) d));
        few = h.0;
      }

  -- ---- in steps of 2 ^ r units, of which 2 ^ prec make 1
  module _ (r : ℕ) (split : r + prec f ≡ low f) where
    -- from a half on
    large : (a : ℕ) → Digits f a → 2 ^ (low f - 1) ≤ a → Steps r a
    large a d h =
        coarser r d.kept d.zeros d.is
        (elim (dec_le r d.zeros) [
          | yes g ↦ g
          | no g ↦ absurd (not-le_of_lt (lt_of_lt_of_le (shl_lt (prec f) d.zeros d.few) (pow_mono {j = low f - 1} (omega arith))) (le_trans h (le_of_eq d.is)))
        ])

    -- a sum below a half is what is left of a number from a half on
    below : (s : Bool) (a n : ℕ) → Over s a (2 ^ prec f * 2 ^ r) n → Digits f a → n < 2 ^ (low f - 1) → Steps r n
    below false a n o d h = absurd (not-le_of_lt h (le_trans (pow_mono {j = low f} (omega arith)) (omega (arith, ones f (prec f) r split))))
    below true a n o d h =
        let P = two f in
        let e : suc (low f - 1) ≡ low f = omega arith in
        let t = sym (pow-succ' 2 (low f - 1)) ∙ ap (λ (x : ℕ). 2 ^ x) e in
        left r (2 ^ prec f) a n o (large a d (omega (arith, t, ones f (prec f) r split)))

    -- rounding leaves whole steps
    rounded-steps : (n : ℕ) → (n < 2 ^ (low f - 1) → Steps r n) → Steps r (rounded_in f n)
    rounded-steps n small =
        let k = cut (prec f) n in
        elim (dec_le r k) [
          | yes h ↦ coarser r (closest n (2 ^ k)) k refl h
          | no h ↦ kept_whole r k n (le_of_lt (lt_of_not-le h)) (small (lt_of_lt_of_le (size-lt n) (pow_mono {j = low f - 1} (omega arith))))
        ]

    pub sum-steps : {v : Float} → T (fits f v) → (p : Placed f (2 ^ prec f) (suc (prec f)) r v) → Steps r (rounded_in f p.count)
    sum-steps {v} held p =
        let l = p.lies in
        let d = by_value (λ (z : Float). T (fits f z) → Digits f l.size) l.sign l.size (2 ^ low f) (λ m e k t. digits_of l.sign m e l.size k t) v l.counts held in
        rounded-steps p.count (below l.sign l.size p.count l.over d)
