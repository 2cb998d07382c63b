-- The bit pattern of a rounded fraction, one law for every conversion: the exponent's field and the digits come from
-- one sum, and a carry out of the digits goes into the field by itself.
-- Assumes nothing.
use mathlib.Core.Path.{◌≡◌, refl, sym, ap, ap₂, ◌∙◌, subst}
use mathlib.Core.Bool.{Bool, true, false, not, cond}
use mathlib.Core.Logic.{◌⊎◌, inl, inr}
use Prim.Native.Nat.{ℕ, zero, suc, ◌+◌, ◌-◌, ◌*◌, ◌/◌, ◌%◌, ◌^◌, ◌≤◌, ◌<◌, zero-le, min, compare}
use native.Mathlib.Nat.{
  le_trans,
  le_of_eq,
  lt_of_lt_of_le,
  lt_of_le_of_lt,
  lt_of_not-le,
  not-le_of_lt,
  eq-or-lt_of_le,
  eq-zero-or-pos,
  le_antisymm,
  add_assoc,
  mul_assoc,
  mul-one,
  mul-le-mul_right,
  mul-lt-mul_of_pos_right,
  le_of_mul-le-mul_right,
  mul-div_cancel,
  div-eq_of_lt,
  div-div-eq-div-mul,
  le-div_iff_mul-le,
  div-lt_iff_lt-mul,
  pow-succ',
  min-eq_left,
  min-eq_right,
}
use native.Mathlib.Decide.{dec_le}
use native.Mathlib.Omega.{arith}
use lib.Dec.{T, ltb, ltb→lt, nltb→le}
use lib.Pow.{pow-add, pow_pos, pow_mono, pow-lt}
use lib.Ieee.{Float, nan, inf, fin, Format, binary32, binary64, prec, low, up, down, size, odd, units, round, to_bits, hid, ones, top}
use lib.Ieee.Bits.{cond_no}
use lib.Ieee.Digits.{size-lt, size-le, size_reaches}
use lib.Ieee.Fits.{down_pos, two, two-le_pos, round_is, nearest-le, kept-lt}
use lib.Ieee.Nearest.{closest, nearest-ge}
use lib.Ieee.Exact.{HasValue, units_val}
use lib.Ieee.Order.{drop, kept}
use lib.Ieee.Scale.{overflow}
use Rattle.numbers.proofs.Closest.{closest-scaled, closest-none}

-- how many digits a number has, from its bounds
pub size_is : (n r : ℕ) → n < 2 ^ r → ((j : ℕ) → r ≡ suc j → 2 ^ j ≤ n) → size n ≡ r
size_is n r hi lo = le_antisymm (size-le n r hi) (reach r lo)
  where
    reach : (r : ℕ) → ((j : ℕ) → r ≡ suc j → 2 ^ j ≤ n) → r ≤ size n
    reach zero g = zero-le
    reach (suc j) g = lt_of_not-le (λ (l : size n ≤ j). not-le_of_lt (size-lt n) (le_trans (pow_mono l) (g j refl)))

-- of m * 2 ^ a / 2 ^ l, for an m of suc z digits
size-shifted : (m z a l : ℕ) → m < 2 ^ suc z → 2 ^ z ≤ m → size (m * 2 ^ a / 2 ^ l) ≡ suc z + a - l
size-shifted m z a l hi lo =
    let r = suc z + a - l in
    size_is (m * 2 ^ a / 2 ^ l) r
    ((div-lt_iff_lt-mul (pow_pos l)).1
    (lt_of_lt_of_le (mul-lt-mul_of_pos_right hi (pow_pos a))
    (le_trans (le_of_eq (sym (pow-add 2 (suc z) a))) (le_trans (pow_mono (omega arith)) (le_of_eq (pow-add 2 r l))))))
    (λ (j : ℕ) (e : r ≡ suc j). (le-div_iff_mul-le (pow_pos l)).1
    (le_trans (le_of_eq (sym (pow-add 2 j l)))
    (le_trans (pow_mono (omega (arith, e))) (le_trans (le_of_eq (pow-add 2 z a)) (mul-le-mul_right (2 ^ a) lo)))))

-- ---- the pattern of n units with no sign: the digits dropped, in the field, and the p digits kept
abbrev pattern : ℕ → ℕ → ℕ
pattern p n = (size n - p) * 2 ^ (p - 1) + n / 2 ^ (size n - p)

bits_of_value : (f : Format) (x : Float) (s : Bool) (a : ℕ) → HasValue x s a (2 ^ low f) → to_bits f x ≡ cond s (top f) 0 + pattern (prec f) a
unfolding to_bits
bits_of_value f nan s a h = absurd h
bits_of_value f (inf t) s a h = absurd h
bits_of_value f (fin t m e) s a h =
    let n : m * up e * 2 ^ low f / down e ≡ a = ap (λ (x : ℕ). x / down e) h.1 ∙ mul-div_cancel a (down_pos e) in
    ap₂ (λ (r : Bool) (n : ℕ). cond r (top f) 0 + (size n - prec f) * hid f + n / 2 ^ (size n - prec f)) h.0 n
    ∙ add_assoc (cond s (top f) 0) ((size a - prec f) * hid f) (a / 2 ^ (size a - prec f))

-- q * 2 ^ k units, as rounding leaves them: q has p digits, or fewer where k is 0, or is 2 ^ p
module _ (p q k : ℕ) (P : 0 < p) (most : q ≤ 2 ^ p) (least : 0 < k → 2 ^ (p - 1) ≤ q) where
  twice : 2 ^ p ≡ 2 * 2 ^ (p - 1)
  twice = ap (λ (x : ℕ). 2 ^ x) (omega (arith, P)) ∙ pow-succ' 2 (p - 1)

  by-dropped : (c w : ℕ) → size (q * 2 ^ k) - p ≡ c → q * 2 ^ k ≡ w * 2 ^ c → pattern p (q * 2 ^ k) ≡ c * 2 ^ (p - 1) + w
  by-dropped c w e d =
      ap (λ (x : ℕ). x * 2 ^ (p - 1) + q * 2 ^ k / 2 ^ x) e
      ∙ ap (λ (x : ℕ). c * 2 ^ (p - 1) + x / 2 ^ c) d
      ∙ ap (λ (x : ℕ). c * 2 ^ (p - 1) + x) (mul-div_cancel w (pow_pos c))

  carried : pattern p (q * 2 ^ k) ≡ k * 2 ^ (p - 1) + q
  carried = go (eq-or-lt_of_le most) (eq-zero-or-pos k)
    where
      go : (q ≡ 2 ^ p) ⊎ (q < 2 ^ p) → (k ≡ 0) ⊎ (0 < k) → pattern p (q * 2 ^ k) ≡ k * 2 ^ (p - 1) + q
      go (inl e) z =
          let n : q * 2 ^ k ≡ 2 ^ (p + k) = ap (λ (x : ℕ). x * 2 ^ k) e ∙ sym (pow-add 2 p k) in
          let s : size (q * 2 ^ k) ≡ suc (p + k) =
          size_is (q * 2 ^ k) (suc (p + k)) (lt_of_le_of_lt (le_of_eq n) (pow-lt (omega arith)))
          (λ (j : ℕ) (h : suc (p + k) ≡ suc j). le_of_eq (ap (λ (x : ℕ). 2 ^ x) (omega (arith, h)) ∙ sym n)) in
          by-dropped (suc k) (2 ^ (p - 1)) (omega (arith, s))
          (omega (arith, ap (λ (x : ℕ). x * 2 ^ k) (e ∙ twice), ap (λ (x : ℕ). 2 ^ (p - 1) * x) (pow-succ' 2 k)))
          ∙ omega (arith, e, twice)
      go (inr l) (inl z) =
          let n : q * 2 ^ k ≡ q = ap (λ (x : ℕ). q * 2 ^ x) z ∙ mul-one q in
          let s : size (q * 2 ^ k) ≤ p = size-le (q * 2 ^ k) p (lt_of_le_of_lt (le_of_eq n) l) in
          by-dropped 0 q (omega arith) (n ∙ sym (mul-one q)) ∙ ap (λ (x : ℕ). x * 2 ^ (p - 1) + q) (sym z)
      go (inr l) (inr K) =
          let s : size (q * 2 ^ k) ≡ p + k =
          size_is (q * 2 ^ k) (p + k) (lt_of_lt_of_le (mul-lt-mul_of_pos_right l (pow_pos k)) (le_of_eq (sym (pow-add 2 p k))))
          (λ (j : ℕ) (h : p + k ≡ suc j). le_trans (le_of_eq (ap (λ (x : ℕ). 2 ^ x) (omega (arith, h, P)) ∙ pow-add 2 (p - 1) k)) (mul-le-mul_right (2 ^ k) (least K))) in
          by-dropped k q (omega (arith, s)) refl

  -- past the largest value, 2 ^ (p + e) units, the pattern stops at that of an infinity, whose field is e + 2
  stops-after : (e : ℕ) → q * 2 ^ k < 2 ^ (p + e) → k * 2 ^ (p - 1) + q ≤ (e + 2) * 2 ^ (p - 1)
  stops-after e l =
      elim (dec_le k e) [
        | yes a ↦ omega (arith, mul-le-mul_right (2 ^ (p - 1)) a, twice)
        | no b ↦
            let c : e < k = lt_of_not-le b in
            absurd (not-le_of_lt l (le_trans (pow_mono (omega (arith, P))) (le_trans (le_of_eq (pow-add 2 (p - 1) k)) (mul-le-mul_right (2 ^ k) (least (omega arith))))))
      ]

  stops-before : (e : ℕ) → 2 ^ (p + e) ≤ q * 2 ^ k → (e + 2) * 2 ^ (p - 1) ≤ k * 2 ^ (p - 1) + q
  stops-before e l =
      elim (dec_le k e) [
        | yes a ↦ at (eq-or-lt_of_le a)
        | no b ↦ let c : e < k = lt_of_not-le b in omega (arith, mul-le-mul_right (2 ^ (p - 1)) c, least (omega arith))
      ]
    where
      at : (k ≡ e) ⊎ (k < e) → (e + 2) * 2 ^ (p - 1) ≤ k * 2 ^ (p - 1) + q
      at (inl h) =
          let r : 2 ^ p ≤ q = le_of_mul-le-mul_right (le_trans (le_of_eq (sym (pow-add 2 p k) ∙ ap (λ (x : ℕ). 2 ^ (p + x)) h)) l) (pow_pos k) in
          omega (arith, ap (λ (x : ℕ). x * 2 ^ (p - 1)) h, twice)
      at (inr c) =
          absurd (not-le_of_lt (lt_of_le_of_lt (le_trans (mul-le-mul_right (2 ^ k) most) (le_of_eq (sym (pow-add 2 p k)))) (pow-lt (omega arith))) l)

-- ---- what `round` keeps
kept-le : (p n den : ℕ) → kept p n den ≤ 2 ^ p
kept-le p n den =
    let u = den * 2 ^ drop p n den in
    le_trans (nearest-le (n / u) (compare (n % u * 2) u))
    (subst (λ (x : ℕ). x < 2 ^ p) (div-div-eq-div-mul n den (2 ^ drop p n den)) (kept-lt p (n / den)))

kept-ge : (p n den : ℕ) → 0 < p → 0 < drop p n den → 2 ^ (p - 1) ≤ kept p n den
kept-ge p n den P K =
    let k = drop p n den in
    let a : 2 ^ (p - 1) * 2 ^ k ≤ n / den =
    le_trans (le_of_eq (sym (pow-add 2 (p - 1) k))) (size_reaches (n / den) (p - 1 + k) (all_in_use (size (n / den)) P K)) in
    le_trans (subst (λ (x : ℕ). 2 ^ (p - 1) ≤ x) (div-div-eq-div-mul n den (2 ^ k)) ((le-div_iff_mul-le (pow_pos k)).1 a))
    (nearest-ge (n / (den * 2 ^ k)) (compare (n % (den * 2 ^ k) * 2) (den * 2 ^ k)))
  where
    all_in_use : (z : ℕ) → 0 < p → 0 < z - p → p - 1 + (z - p) < z
    all_in_use z P h = omega arith

-- ---- the two formats' limits
limit : (f : Format) → overflow f ≡ 2 ^ (prec f + (ones f - 2))
limit binary32 = refl
limit binary64 = refl

field : (f : Format) → (ones f - 2 + 2) * hid f ≡ ones f * hid f
field binary32 = refl
field binary64 = refl

infinite : (f : Format) (s : Bool) (q k : ℕ) → T (not (ltb (q * 2 ^ k) (overflow f))) → to_bits f (units f s q k) ≡ cond s (top f) 0 + ones f * hid f
unfolding units to_bits
infinite f s q k h = ap (λ (x : Float). to_bits f x) (cond_no (ltb (q * 2 ^ k) (overflow f)) (odd (suc (prec f)) s q k (low f)) (inf s) h)

bits-of-units : (f : Format) (s : Bool) (q k : ℕ) → q ≤ 2 ^ prec f → (0 < k → hid f ≤ q) → to_bits f (units f s q k) ≡ cond s (top f) 0 + min (k * hid f + q) (ones f * hid f)
bits-of-units f s q k h g =
    go (ltb (q * 2 ^ k) (overflow f)) (ltb→lt (q * 2 ^ k) (overflow f)) (nltb→le (q * 2 ^ k) (overflow f)) (infinite f s q k)
  where
    P : 0 < prec f
    P = two-le_pos (prec f) (two f)

    go : (b : Bool) → (T b → q * 2 ^ k < overflow f) → (T (not b) → overflow f ≤ q * 2 ^ k)
        → (T (not b) → to_bits f (units f s q k) ≡ cond s (top f) 0 + ones f * hid f)
        → to_bits f (units f s q k) ≡ cond s (top f) 0 + min (k * hid f + q) (ones f * hid f)
    go true a b c =
        let le : k * hid f + q ≤ ones f * hid f = le_trans (stops-after (prec f) q k P h g (ones f - 2) (lt_of_lt_of_le (a tt) (le_of_eq (limit f)))) (le_of_eq (field f)) in
        bits_of_value f (units f s q k) s (q * 2 ^ k) (units_val f s q k (a tt))
        ∙ ap (λ (x : ℕ). cond s (top f) 0 + x) (carried (prec f) q k P h g ∙ sym (min-eq_left le))
    go false a b c =
        let le : ones f * hid f ≤ k * hid f + q = le_trans (le_of_eq (sym (field f))) (stops-before (prec f) q k P h g (ones f - 2) (le_trans (le_of_eq (sym (limit f))) (b tt))) in
        c tt ∙ ap (λ (x : ℕ). cond s (top f) 0 + x) (sym (min-eq_right le))

-- of num / den, in units n / den, `drop` digits are dropped and `kept` is what is left
pub bits-of-round : (f : Format) (s : Bool) (num den : ℕ) → to_bits f (round f s num den)
    ≡ cond s (top f) 0 + min (drop (prec f) (num * 2 ^ low f) den * hid f + kept (prec f) (num * 2 ^ low f) den) (ones f * hid f)
bits-of-round f s num den =
    let n = num * 2 ^ low f in
    ap (λ (x : Float). to_bits f x) (round_is f s num den)
    ∙ bits-of-units f s (kept (prec f) n den) (drop (prec f) n den) (kept-le (prec f) n den) (kept-ge (prec f) n den (two-le_pos (prec f) (two f)))

-- The law that the conversions cite: m * 2 ^ j / 2 ^ l, for an m of suc z digits. k digits are dropped; m is moved up
-- by d digits and rounded at the c lowest.
pub rounded-bits : (f : Format) (s : Bool) (m z j l : ℕ) → m < 2 ^ suc z → 2 ^ z ≤ m
    → (k c d : ℕ) → suc z + (j + low f) - l - prec f ≡ k → j + low f + c ≡ l + k + d
    → to_bits f (round f s (m * 2 ^ j) (2 ^ l)) ≡ cond s (top f) 0 + min (k * hid f + closest (m * 2 ^ d) (2 ^ c)) (ones f * hid f)
rounded-bits f s m z j l hi lo k c d K C =
    let n : m * 2 ^ j * 2 ^ low f ≡ m * 2 ^ (j + low f) = mul_assoc m (2 ^ j) (2 ^ low f) ∙ ap (λ (y : ℕ). m * y) (sym (pow-add 2 j (low f))) in
    let q : drop (prec f) (m * 2 ^ (j + low f)) (2 ^ l) ≡ k = ap (λ (y : ℕ). y - prec f) (size-shifted m z (j + low f) l hi lo) ∙ K in
    bits-of-round f s (m * 2 ^ j) (2 ^ l)
    ∙ ap (λ (y : ℕ). cond s (top f) 0 + min (drop (prec f) y (2 ^ l) * hid f + kept (prec f) y (2 ^ l)) (ones f * hid f)) n
    ∙ ap (λ (y : ℕ). cond s (top f) 0 + min (y * hid f + closest (m * 2 ^ (j + low f)) (2 ^ l * 2 ^ y)) (ones f * hid f)) q
    ∙ ap (λ (y : ℕ). cond s (top f) 0 + min (k * hid f + y) (ones f * hid f)) (closest-scaled m (j + low f) l k c d C)

-- below half of the format's least value nothing is left
pub tiny-bits : (f : Format) (m z j l : ℕ) → m < 2 ^ z → suc (z + (j + low f)) ≤ l → to_bits f (round f false (m * 2 ^ j) (2 ^ l)) ≡ 0
tiny-bits f m z j l M h =
    let n = m * 2 ^ j * 2 ^ low f in
    let small : n * 2 < 2 ^ l =
    lt_of_lt_of_le
    (omega (arith, mul-lt-mul_of_pos_right M (pow_pos (j + low f)), pow-add 2 z (j + low f), pow-succ' 2 (z + (j + low f)), mul_assoc m (2 ^ j) (2 ^ low f), ap (λ (y : ℕ). m * y) (pow-add 2 j (low f))))
    (pow_mono h) in
    bits-of-round f false (m * 2 ^ j) (2 ^ l)
    ∙ ap (λ (y : ℕ). 0 + min (y * hid f + closest n (2 ^ l * 2 ^ y)) (ones f * hid f)) (none n (omega arith))
    ∙ ap (λ (y : ℕ). 0 + min (0 * hid f + y) (ones f * hid f)) (closest-none n (2 ^ l * 2 ^ 0) (rw mul-one small))
    ∙ omega arith
  where
    none : (n : ℕ) → n < 2 ^ l → drop (prec f) n (2 ^ l) ≡ 0
    none n h = ap (λ (y : ℕ). size y - prec f) (div-eq_of_lt h) ∙ omega (arith, size-le 0 0 (pow_pos 0))
