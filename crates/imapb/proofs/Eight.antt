-- The code of eight bytes: what its writer casts to a whole number, and the code of every length as its front.
-- Assumes nothing.
use mathlib.Core.Path.{◌≡◌, refl, sym, ap, ◌∙◌, subst}
use mathlib.Core.Bool.{Bool, true, false, cond}
use Prim.Native.Nat.{ℕ, suc, ◌+◌, ◌-◌, ◌*◌, ◌/◌, ◌%◌, ◌^◌, ◌≤◌, ◌<◌, min}
use native.Mathlib.Nat.{le_of_eq, le_trans, lt_of_le_of_lt, mul-one, div-one, mul-pos, mul-mod_left, mul-div_cancel, min-eq_left, sub-add_cancel, le_of_mul-le-mul_right}
use native.Mathlib.Decide.{dec_le}
use native.Mathlib.Omega.{arith}
use borrow.Author.Tests.{lt-ltb, le-leb, ne_eqb}
use lib.Dec.{T, lit≤, lit<}
use lib.IntN.{ℤ, pos, neg_ℤ, ◌+ℤ◌, +ℤ_comm, +ℤ-neg_ℤ_cancel}
use lib.Pow.{pow-add, pow_pos, pow_mono, pow-lt, shl-shr, shr-shr}
use lib.Ieee.{Float, fin, Format, binary32, binary64, prec, emax, low, up, down, round, add, sub, mul, fits, whole, in_signed, to_signed}
use lib.Ieee.Fits.{down_pos}
use lib.Ieee.Exact.{HasValue}
use Rattle.imapb.specs.Mapping.{one, power, code, code_of, in_range}
use Rattle.imapb.proofs.Rounded.{joined, steps-le, rounded-top}
use Rattle.imapb.proofs.Units.{Counts, by_value, exact}
use Rattle.imapb.proofs.Above.{Lies, sub-up, sub-down}
use Rattle.imapb.proofs.Mapped.{rounded_in, Placed, product, code_is}
use Rattle.imapb.proofs.UnitRange.{step, split-of, ones, placed, unit-range}
use Rattle.imapb.proofs.Steps.{sum-steps}
use Rattle.imapb.proofs.Exact.{again}

-- ---- a whole number up to 2 ^ 53 either way is cast to itself, unless it is -0
abbrev Cast : Bool → ℕ → Float → Type 0
Cast s q x = T (in_signed binary64 63 x) × (to_signed 63 x ≡ cond s (neg_ℤ (pos q)) (pos q))

module _ (q : ℕ) (few : q ≤ 2 ^ 53) where
  module _ (m : ℕ) (e : ℤ) (k : m * up e * 1 ≡ q * down e) where
    value : m * up e ≡ q * down e
    value = sym (mul-one (m * up e)) ∙ k

    quotient : m * up e / down e ≡ q
    quotient = ap (λ (x : ℕ). x / down e) value ∙ mul-div_cancel q (down_pos e)

    rest : m * up e % down e ≡ 0
    rest = ap (λ (x : ℕ). x % down e) value ∙ mul-mod_left q (down e)

    capped : (c : ℕ) → q ≤ c → min (m * up e / down e) c ≡ q
    capped c h = ap (λ (x : ℕ). min x c) quotient ∙ min-eq_left h

    not_negative : Cast false q (fin false m e)
    unfolding whole in_signed to_signed
    not_negative = (
      rw (rest, quotient, le-leb q (2 ^ 53) few, lt-ltb q (2 ^ 63) (omega arith)) tt,
      ap pos (capped (2 ^ 63 - 1) (omega arith)),
    )

    negative : 0 < q → Cast true q (fin true m e)
    unfolding whole in_signed to_signed
    negative p = (
      rw (rest, quotient, le-leb q (2 ^ 53) few, le-leb q (2 ^ 63) (omega arith), ne_eqb m 0 no) tt,
      ap (λ (x : ℕ). neg_ℤ (pos x)) (capped (2 ^ 63) (omega arith)),
    )
      where
        no : m ≡ 0 → ⊥
        no z = omega (arith, mul-pos p (down_pos e), value, ap (λ (x : ℕ). x * up e) z)

  cast-up : (x : Float) → HasValue x false q 1 → Cast false q x
  cast-up x = by_value (Cast false q) false q 1 not_negative x

  cast-down : 0 < q → (x : Float) → HasValue x true q 1 → Cast true q x
  cast-down p x = by_value (Cast true q) true q 1 (λ m e k. negative m e k p) x

-- ---- k less 2 ^ prec, for a k of one digit more than the format has
narrow : (f : Format) → prec f ≤ emax f
narrow binary32 = lit≤ tt
narrow binary64 = lit≤ tt

module _ (f : Format) (y : Float) (k : ℕ) (h : Counts f y false (k * 2 ^ low f)) where
  top : Counts f (power (prec f)) false (2 ^ prec f * 2 ^ low f)
  top = (refl, omega arith)

  kept : (s : Bool) (q : ℕ) → q ≤ 2 ^ prec f → HasValue (round f s (q * 2 ^ low f) (2 ^ low f)) s q 1
  kept s q few =
      again (round f s (q * 2 ^ low f) (2 ^ low f)) s (q * 2 ^ low f) (2 ^ low f) q 1 (pow_pos (low f))
      (exact f s q (low f) few (lt_of_le_of_lt (steps-le q (prec f) (low f) few) (pow-lt (omega (arith, narrow f))))) (mul-one (q * 2 ^ low f))

  from_up : (q : ℕ) → q + 2 ^ prec f ≡ k → q ≤ 2 ^ prec f → HasValue (sub f y (power (prec f))) false q 1
  from_up q e few =
      rw (sub-up f y (power (prec f)) (k * 2 ^ low f) (2 ^ prec f * 2 ^ low f) h top (q * 2 ^ low f) (omega (arith, ap (λ (x : ℕ). x * 2 ^ low f) e))) (kept false q few)

  from-down : (q : ℕ) → 0 < q → k + q ≡ 2 ^ prec f → HasValue (sub f y (power (prec f))) true q 1
  from-down q p e =
      rw (sub-down f y (power (prec f)) (k * 2 ^ low f) (2 ^ prec f * 2 ^ low f) h top (q * 2 ^ low f) (mul-pos p (pow_pos (low f))) (omega (arith, ap (λ (x : ℕ). x * 2 ^ low f) e))) (kept true q (omega arith))

-- in binary64 the cast gives it
from-middle : (y : Float) (k : ℕ) → Counts binary64 y false (k * 2 ^ 1074) → k ≤ 2 ^ 54
    → T (in_signed binary64 63 (sub binary64 y (power 53))) × (to_signed 63 (sub binary64 y (power 53)) +ℤ pos (2 ^ 53) ≡ pos k)
from-middle y k h most =
    let x = sub binary64 y (power 53) in
    elim (dec_le (2 ^ 53) k) [
      | yes g ↦
          let q = k - 2 ^ 53 in
          let c = cast-up q (omega arith) x (from_up binary64 y k h q (sub-add_cancel g) (omega arith)) in
          (c.0, ap (λ (z : ℤ). z +ℤ pos (2 ^ 53)) c.1 ∙ ap pos (sub-add_cancel g))
      | no g ↦
          let q = 2 ^ 53 - k in
          let p : 0 < q = omega arith in
          let e : k + q ≡ 2 ^ 53 = omega arith in
          let c = cast-down q (omega arith) p x (from-down binary64 y k h q p e) in
          (c.0, ap (λ (z : ℤ). z +ℤ pos (2 ^ 53)) c.1 ∙ ap (λ (z : ℕ). neg_ℤ (pos q) +ℤ pos z) (sym e) ∙ +ℤ_comm (neg_ℤ (pos q)) (pos (k + q)) ∙ +ℤ-neg_ℤ_cancel (pos k) (pos q))
    ]

-- ---- the sum of v with 1
-- it lies as far above the start of a range by whatever steps that is counted
moved : {f : Format} {v : Float} (t r u q : ℕ) → r + t ≡ low f → q + u ≡ low f → Placed f (2 ^ t) (suc t) r v → Placed f (2 ^ u) (suc u) q v
moved {f} {v} t r u q a b p = record {
  count = p.count;
  lies = subst (λ (w : ℕ). Lies f w p.count v) (ones f t r a ∙ sym (ones f u q b)) p.lies;
  most = le_trans p.most (pow_mono (omega arith));
}

cut_off : (n r m : ℕ) → 9 ≤ r → n * 2 ^ r / 2 ^ (r - 9 + m) ≡ n * 2 ^ 9 / 2 ^ m
cut_off n r m h =
    let e : n * 2 ^ 9 * 2 ^ (r - 9) ≡ n * 2 ^ r = joined n 9 (r - 9) ∙ ap (λ (x : ℕ). n * 2 ^ x) (omega arith) in
    sym (shr-shr (n * 2 ^ r) (r - 9) m) ∙ ap (λ (x : ℕ). x / 2 ^ m) (ap (λ (x : ℕ). x / 2 ^ (r - 9)) (sym e) ∙ shl-shr (n * 2 ^ 9) (r - 9))

-- what the writer casts: the sum in steps of 2 ^ -53, from the middle on
abbrev pub from_middle : Float → Float
from_middle v = sub binary64 (mul binary64 (add binary64 v one) (power 53)) (power 53)

-- the sum is `count` steps of 2 ^ -53
pub record Summed (v : Float) : Type 0 where
  pub count : ℕ
  pub most : count ≤ 2 ^ 54
  pub codes : (L : ℕ) → 1 ≤ L → L ≤ 8 → code_of L v ≡ count * 2 ^ 9 / 2 ^ (64 - 8 * L)
  pub castable : T (in_signed binary64 63 (from_middle v))
  pub cast_is : to_signed 63 (from_middle v) +ℤ pos (2 ^ 53) ≡ pos count

module _ (v : Float) (held : T (fits binary64 v)) (ranged : T (in_range v)) where
  in-steps : (r : ℕ) → r + 53 ≡ 1074 → Summed v
  unfolding code moved
  in-steps r split =
      let p = placed binary64 53 r split v held ranged in
      let s = sum-steps binary64 r split held p in
      let t : s.count ≤ 2 ^ 54 =
      le_of_mul-le-mul_right (le_trans (le_of_eq (sym s.is)) (le_trans (rounded-top 53 p.count (lit< tt) (54 + r) p.most) (le_of_eq (pow-add 2 54 r)))) (pow_pos r) in
      let u = product (unit-range binary64 53 r split (lit< tt)) p in
      let e = ap (λ (x : ℕ). x * 2 ^ 53) s.is ∙ joined s.count r 53 ∙ ap (λ (x : ℕ). s.count * 2 ^ x) split in
      let m = from-middle (mul binary64 (add binary64 v one) (power 53)) s.count (rw e at u) t in
      record {
        count = s.count;
        most = t;
        codes = λ L least most.
            code_is (unit-range binary64 (8 * L - 2) (step L) (split-of L least most) (omega arith)) (moved 53 r (8 * L - 2) (step L) split (split-of L least most) p)
            ∙ ap (λ (x : ℕ). rounded_in binary64 p.count / 2 ^ x) (omega arith)
            ∙ ap (λ (x : ℕ). x / 2 ^ (r - 9 + (64 - 8 * L))) s.is
            ∙ cut_off s.count r (64 - 8 * L) (omega arith);
        castable = m.0;
        cast_is = m.1;
      }

  pub summed : Summed v
  summed = in-steps 1021 refl

pub code-eight : {v : Float} (s : Summed v) → code_of 8 v ≡ s.count * 512
code-eight s = s.codes 8 (lit≤ tt) (lit≤ tt) ∙ div-one (s.count * 512)

-- a code is the front of the code of eight bytes
pub code-cut : (v : Float) → T (fits binary64 v) → T (in_range v) → (L : ℕ) → 1 ≤ L → L ≤ 8 → code_of L v ≡ code_of 8 v / 2 ^ (64 - 8 * L)
code-cut v held ranged L least most = let s = summed v held ranged in rw (code-eight s) (s.codes L least most)
