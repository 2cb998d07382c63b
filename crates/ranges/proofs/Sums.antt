-- Sums of floats in units: what they round to, that rounding keeps the order, and where nothing overflows.
-- Assumes nothing.
use Rattle.std.proofs.Common.{◌≡◌, ℕ, zero, suc, ◌+◌, ◌-◌, ◌*◌, ◌/◌, ◌%◌, ◌^◌, ◌<◌, ◌≤◌, Bool, true, false, ◌&&◌, T, eqb, ltb, leb, ℤ, pos, negsuc, refl, ap, ◌∙◌, inl, inr, le_trans, le_of_eq, lt_of_le_of_lt, le_of_lt, mul-le-mul_right, lt_of_mul-lt-mul_right, eq-or-lt_of_le, mul-le-mul_left, mul-lt-mul_of_pos_right, mul-pos, lt_of_not-le, mul-one, div-one, arith, ltb→lt, pow_pos, pow_mono, pow-add, le-ltb, lt-ltb}
use native.Mathlib.Nat.{pow-succ'}
use native.Mathlib.Decide.{dec_le}
use lib.Pow.{pow-lt}
use lib.Ieee.{Float, nan, inf, fin, Format, prec, emax, low, up, down, size, round, sum, add, lt, below, fits}
use lib.Ieee.Digits.{size-lt, size-le, size_reaches}
use lib.Ieee.Fits.{and_r, down_pos, two, two-le_pos, reach}
use lib.Ieee.Nearest.{closest_mono}
use lib.Ieee.Scale.{overflow, finite}
use Rattle.numbers.proofs.Closest.{closest-le}
use Rattle.imapb.proofs.Rounded.{cut, rounded, apart, kept-few, rounded-ge, steps-over}
use Rattle.imapb.proofs.Units.{Counts, by_value, round-signed, add_is}
use Rattle.imapb.proofs.Above.{Over}
use Rattle.imapb.proofs.UnitRange.{counted}
use Rattle.ranges.specs.Range.{larger}
use Rattle.ranges.proofs.Order.{lt-is}
use Rattle.ranges.proofs.Field.{few-digits}

-- ---- rounding a whole number
module _ (p : ℕ) (P : 0 < p) where
  -- it keeps the order: as many digits are dropped of both, or a power of two lies between
  pub rounded-mono : (a b : ℕ) → a ≤ b → rounded p a ≤ rounded p b
  rounded-mono a b h =
      let j = cut p a in
      let k = cut p b in
      let s = size-le a (size b) (lt_of_le_of_lt h (size-lt b)) in
      let le : j ≤ k = omega arith in
      elim (eq-or-lt_of_le le) [
        | inl e ↦ rw e (mul-le-mul_right (2 ^ k) (closest_mono a (2 ^ k) b (2 ^ k) (pow_pos k) (pow_pos k) (mul-le-mul_right (2 ^ k) h)))
        | inr l ↦
            let t = size_reaches b (p - 1 + k) (omega arith) in
            let m : 2 ^ (p + j) ≤ 2 ^ (p - 1 + k) = pow_mono (omega arith) in
            let r = rounded-ge p b P 1 (p - 1 + k) (pow_pos p) (omega arith) in
            omega (arith, mul-le-mul_right (2 ^ j) (kept-few p a), pow-add 2 p j)
      ]

  pub rounded-zero : (n : ℕ) → n ≡ 0 → rounded p n ≡ 0
  rounded-zero n e =
      let c = closest-le 0 (2 ^ cut p n) n (pow_pos (cut p n)) (omega arith) in
      omega (arith, mul-le-mul_right (2 ^ cut p n) c)

  -- it grows by half a unit of its last digit at most
  pub rounded-under : (j n : ℕ) → n + 2 ^ j < 2 ^ (p + suc j) → rounded p n < 2 ^ (p + suc j)
  rounded-under j n h =
      let o = steps-over p (p + suc j) 0 n P (le_trans (omega arith) (pow_mono {i = p + suc j} (omega arith))) j (omega arith) in
      let e : rounded p n / 2 ^ 0 * 2 ^ 0 ≡ rounded p n = mul-one (rounded p n / 1) ∙ div-one (rounded p n) in
      omega arith

-- ---- floats in units
pub digits : (f : Format) → 0 < prec f
digits f = two-le_pos (prec f) (two f)

pub finite-counts : (f : Format) (x : Float) (s : Bool) (a : ℕ) → Counts f x s a → finite x ≡ true
finite-counts f x s a = by_value (λ (z : Float). finite z ≡ true) s a (2 ^ low f) (λ m e k. refl) x

-- the larger of two up to M units
pub record Largest (f : Format) (a M : ℕ) (x : Float) : Type 0 where
  pub units : ℕ
  pub counts : Counts f x false units
  pub least : a ≤ units
  pub most : units ≤ M

pub largest : (f : Format) (x y : Float) (a b M : ℕ) → Counts f x false a → Counts f y false b → a ≤ M → b ≤ M → Largest f a M (larger x y)
largest f x y a b M h k A B =
    let e = lt-is x y false false a b (2 ^ low f) (pow_pos (low f)) h k in
    elim (dec_le b a) [
      | yes l ↦ record { units = a; counts = rw (e, le-ltb a b l) h; least = omega arith; most = A }
      | no l ↦ record { units = b; counts = rw (e, lt-ltb a b (lt_of_not-le l)) k; least = omega arith; most = B }
    ]

-- ---- a sum is a difference of what is above 0 and what is below, rounded once
abbrev pub rise : Bool → ℕ → ℕ
rise false a = a
rise true a = 0

abbrev pub fall : Bool → ℕ → ℕ
fall false a = 0
fall true a = a

-- P - N units, rounded
pub record Rounds (f : Format) (N P : ℕ) (x : Float) : Type 0 where
  pub sign : Bool
  pub size : ℕ
  pub counts : Counts f x sign (rounded (prec f) size)
  pub over : Over sign size N P

sum-rounds : (f : Format) (s t : Bool) (a b : ℕ) → rounded (prec f) (a + b) < overflow f
    → Rounds f (fall s a + fall t b) (rise s a + rise t b) (sum f s a t b (2 ^ low f))
unfolding sum
sum-rounds f s t a b o = go s t
  where
    counted-as : (r : Bool) (d : ℕ) → d ≤ a + b → Counts f (round f r d (2 ^ low f)) r (rounded (prec f) d)
    counted-as r d h = round-signed f r d (lt_of_le_of_lt (rounded-mono (prec f) (digits f) d (a + b) h) o)

    go : (s t : Bool) → Rounds f (fall s a + fall t b) (rise s a + rise t b) (sum f s a t b (2 ^ low f))
    go false false = record { sign = false; size = a + b; counts = counted-as false (a + b) (omega arith); over = omega arith }
    go true true = record { sign = true; size = a + b; counts = counted-as true (a + b) (omega arith); over = omega arith }
    go false true =
        elim (dec_le b a) [
          | yes h ↦ record { sign = false; size = a - b; counts = rw (le-ltb a b h) (counted-as false (a - b) (omega arith)); over = omega arith }
          | no h ↦ record { sign = true; size = b - a; counts = rw (lt-ltb a b (lt_of_not-le h)) (counted-as true (b - a) (omega arith)); over = omega arith }
        ]
    go true false =
        elim (dec_le a b) [
          | yes h ↦ elim (eq-or-lt_of_le h) [
            | inl e ↦ record { sign = false; size = a - b; counts = rw (le-ltb a b (omega arith), le-ltb b a h) (counted-as false (a - b) (omega arith)); over = omega arith }
            | inr l ↦ record { sign = false; size = b - a; counts = rw (lt-ltb a b l) (counted-as false (b - a) (omega arith)); over = omega arith }
          ]
          | no h ↦ record { sign = true; size = a - b; counts = rw (le-ltb a b (omega arith), lt-ltb b a (lt_of_not-le h)) (counted-as true (a - b) (omega arith)); over = omega arith }
        ]

pub add_rounds : (f : Format) (x y : Float) (s t : Bool) (a b : ℕ) → Counts f x s a → Counts f y t b → rounded (prec f) (a + b) < overflow f
    → Rounds f (fall s a + fall t b) (rise s a + rise t b) (add f x y)
add_rounds f x y s t a b h k o = rw (add_is f x y s t a b h k) (sum-rounds f s t a b o)

-- rounding keeps the order of two differences
pub not-below : (f : Format) (x y : Float) (N P N' P' : ℕ) → Rounds f N P x → Rounds f N' P' y → P' + N ≤ P + N' → lt x y ≡ false
not-below f x y N P N' P' h k o =
    lt-is x y h.sign k.sign (rounded (prec f) h.size) (rounded (prec f) k.size) (2 ^ low f) (pow_pos (low f)) h.counts k.counts
    ∙ go h.sign k.sign h.size k.size h.over k.over
  where
    go : (s t : Bool) (a b : ℕ) → Over s a N P → Over t b N' P' → below s (rounded (prec f) a) t (rounded (prec f) b) ≡ false
    go false false a b p q = le-ltb (rounded (prec f) a) (rounded (prec f) b) (rounded-mono (prec f) (digits f) b a (omega arith))
    go false true a b p q = refl
    go true false a b p q = rw (rounded-zero (prec f) (digits f) a (omega arith), rounded-zero (prec f) (digits f) b (omega arith)) refl
    go true true a b p q = le-ltb (rounded (prec f) b) (rounded (prec f) a) (rounded-mono (prec f) (digits f) a b (omega arith))

-- ---- a value of the format lies a unit of the last digit below the overflow
-- that unit is 2 ^ gap
abbrev pub gap : Format → ℕ
gap f = low f + suc (emax f) - prec f

pub record Held (f : Format) (x : Float) : Type 0 where
  pub sign : Bool
  pub units : ℕ
  pub counts : Counts f x sign units
  pub room : units + 2 ^ gap f ≤ overflow f

-- p digits, shifted by t places at most, or by more and still below 2 ^ (p + t)
few-room : (p t M n : ℕ) → M < 2 ^ p → n ≤ M * 2 ^ t → n + 2 ^ t ≤ 2 ^ (p + t)
few-room p t M n h k = omega (arith, mul-le-mul_right (2 ^ t) h, pow-add 2 p t)

many-room : (p t M i : ℕ) → t ≤ i → M * 2 ^ i < 2 ^ (p + t) → M * 2 ^ i + 2 ^ t ≤ 2 ^ (p + t)
many-room p t M i h k =
    let e = apart M i t h in
    let q : M * 2 ^ (i - t) < 2 ^ p = lt_of_mul-lt-mul_right (2 ^ t) (omega (arith, pow-add 2 p t)) in
    few-room p t (M * 2 ^ (i - t)) (M * 2 ^ i) q (omega arith)

all_of : (f : Format) → prec f + gap f ≡ low f + suc (emax f)
all_of f = omega (arith, reach f)

held-room : (f : Format) (m : ℕ) (e : ℤ) (n : ℕ) → m < 2 ^ prec f → n < overflow f → m * up e * 2 ^ low f ≡ n * down e → n + 2 ^ gap f ≤ 2 ^ (prec f + gap f)
held-room f m (pos k) n h o q =
    let i = k + low f in
    let u = pow-add 2 k (low f) in
    let e : n ≡ m * 2 ^ i = omega (arith, ap (λ (z : ℕ). m * z) u) in
    elim (dec_le (gap f) i) [
      | yes l ↦ rw e (many-room (prec f) (gap f) m i l (rw (← e, all_of) o))
      | no l ↦ few-room (prec f) (gap f) m n h (rw e (mul-le-mul_left m (pow_mono (le_of_lt (lt_of_not-le l)))))
    ]
held-room f m (negsuc k) n h o q =
    let l : 2 ^ low f ≤ 2 ^ gap f = pow_mono (omega (arith, reach f)) in
    few-room (prec f) (gap f) m n h (omega (arith, mul-le-mul_left n (pow_pos (suc k)), mul-le-mul_left m l))

pub held : (f : Format) (x : Float) → T (fits f x) → T (finite x) → Held f x
unfolding fits
held f nan h k = absurd k
held f (inf s) h k = absurd k
held f (fin s m e) h k =
    let c = counted f s m e h in
    let n = m * up e * 2 ^ low f / down e in
    record { sign = s; units = n; counts = c; room = le_trans (held-room f m e n (few-digits f s m e h) (lt_of_mul-lt-mul_right (down e) (under m h n c.1)) c.1) (le_of_eq (ap (λ (z : ℕ). 2 ^ z) (all_of f))) }
  where
    under : (m : ℕ) → T (fits f (fin s m e)) → (n : ℕ) → m * up e * 2 ^ low f ≡ n * down e → n * down e < overflow f * down e
    under zero t n q = omega (arith, mul-pos (pow_pos (low f + suc (emax f))) (down_pos e))
    under (suc m) t n q =
        let a : Bool = eqb (suc m % 2) 1 && ltb (suc m) (2 ^ prec f) && leb (down e) (2 ^ low f) in
        let l = ltb→lt (suc m * up e) (2 ^ suc (emax f) * down e) (and_r a (ltb (suc m * up e) (2 ^ suc (emax f) * down e)) t) in
        omega (arith, mul-lt-mul_of_pos_right l (pow_pos (low f)), ap (λ (z : ℕ). z * down e) (pow-add 2 (low f) (suc (emax f))))

-- so a sum with less than half of that unit does not reach it
pub held-sum : (f : Format) {x : Float} (h : Held f x) (i n : ℕ) → suc i < gap f → n ≤ h.units + 2 ^ i → rounded (prec f) n < overflow f
held-sum f h i n g l =
    let j = gap f - 1 in
    let e : prec f + suc j ≡ low f + suc (emax f) = omega (arith, reach f) in
    let d : 2 ^ gap f ≡ 2 * 2 ^ j = ap (λ (z : ℕ). 2 ^ z) (omega arith) ∙ pow-succ' 2 j in
    rw e at (rounded-under (prec f) (digits f) j n (rw e (omega (arith, h.room, pow-lt {i = i} {j = j} (omega arith)))))
