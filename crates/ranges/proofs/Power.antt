-- The power of two that a span decides, and a good range: it is one by three comparisons.
-- Assumes nothing.
use Rattle.std.proofs.Common.{◌≡◌, ℕ, zero, suc, ◌+◌, ◌-◌, ◌*◌, ◌^◌, ◌<◌, ◌≤◌, Bool, true, false, ◌&&◌, T, ltb, leb, sym, refl, ap, ◌∙◌, inl, inr, true≢false, le_trans, eq-or-lt_of_le, lt_of_not-le, arith, leb→le, pow_pos, pow_mono, le-ltb, lt-ltb, le-leb, leb-false, leb-true}
use mathlib.Core.Bool.{and-false}
use native.Mathlib.Decide.{dec_le}
use borrow.Author.Tests.{lt-leb}
use lib.Ieee.{Float, nan, inf, fin, Format, binary64, up, down, sub, of_bits, fits, lt, le}
use lib.Ieee.Bits.{is_true}
use lib.Ieee.Fits.{and_l, and_r, sub-fits, down_pos}
use lib.Ieee.Scale.{finite}
use Rattle.answers.specs.Table.{pick}
use Rattle.imapb.proofs.Units.{Counts}
use Rattle.imapb.proofs.UnitRange.{counted}
use Rattle.ranges.specs.Range.{two_to, least_from, power_of, span_of, good_range}
use Rattle.ranges.proofs.Spanned.{Spanned}
use Rattle.ranges.proofs.Order.{lt-is, le_is, two-counts}

-- ---- the search
module _ (x : Float) where
  -- r is the first of k, k+1, .. with 2^(r-61) at least x, or comes behind n of them
  record First (n k r : ℕ) : Type 0 where
    pub from : k ≤ r
    pub reached : r < k + n → le x (two_to r) ≡ true
    pub before : (i : ℕ) → k ≤ i → i < r → le x (two_to i) ≡ false

  first : (n k : ℕ) → First n k (least_from n k x)
  first zero k = record { from = omega arith; reached = λ h. absurd (omega arith); before = λ i h l. absurd (omega arith) }
  first (suc n) k = go (le x (two_to k)) refl (first n (suc k))
    where
      go : (b : Bool) → le x (two_to k) ≡ b → First n (suc k) (least_from n (suc k) x) → First (suc n) k (pick b k (least_from n (suc k) x))
      go true e r = record { from = omega arith; reached = λ h. e; before = λ i h l. absurd (omega arith) }
      go false e r =
          record {
            from = omega (arith, r.from);
            reached = λ h. r.reached (omega arith);
            before = λ i h l. elim (eq-or-lt_of_le h) [ inl q ↦ ap (λ (j : ℕ). le x (two_to j)) (sym q) ∙ e | inr g ↦ r.before i g l ];
          }

  power-first : First 122 0 (power_of x)
  unfolding power_of
  power-first = first 122 0

-- ---- a number of S units
module _ (x : Float) (S : ℕ) (c : Counts binary64 x false S) where
  -- against 2^(k-61)
  upto_is : (k : ℕ) → le x (two_to k) ≡ leb S (2 ^ (1013 + k))
  upto_is k = le_is x (two_to k) S (2 ^ (1013 + k)) (2 ^ 1074) (pow_pos 1074) c (two-counts k)

  over-is : (k : ℕ) → lt (two_to k) x ≡ ltb (2 ^ (1013 + k)) S
  over-is k = lt-is (two_to k) x false false (2 ^ (1013 + k)) S (2 ^ 1074) (pow_pos 1074) (two-counts k) c

  -- its power reaches it, and no smaller one does
  pub upto : power_of x ≤ 121 → S ≤ 2 ^ (1013 + power_of x)
  upto h = leb-true S (2 ^ (1013 + power_of x)) (sym (upto_is (power_of x)) ∙ (power-first x).reached (omega arith))

  pub over : (k : ℕ) → k < power_of x → 2 ^ (1013 + k) < S
  over k h = leb-false S (2 ^ (1013 + k)) (sym (upto_is k) ∙ (power-first x).before k (omega arith) h)

  -- and is in the range by the two ends
  lower-is : leb 1 (power_of x) ≡ lt (two_to 0) x
  lower-is =
      let p = power_of x in
      elim (dec_le 1 p) [
        | yes h ↦ le-leb 1 p h ∙ sym (over-is 0 ∙ lt-ltb (2 ^ 1013) S (over 0 h))
        | no h ↦ lt-leb 1 p (lt_of_not-le h) ∙ sym (over-is 0 ∙ le-ltb (2 ^ 1013) S (le_trans (upto (omega arith)) (pow_mono {i = 1013 + p} {j = 1013} (omega arith))))
      ]

  upper_is : leb (power_of x) 121 ≡ le x (two_to 121)
  upper_is =
      let p = power_of x in
      elim (dec_le p 121) [
        | yes h ↦ le-leb p 121 h ∙ sym (upto_is 121 ∙ le-leb S (2 ^ 1134) (le_trans (upto h) (pow_mono {i = 1013 + p} {j = 1134} (omega arith))))
        | no h ↦ lt-leb p 121 (lt_of_not-le h) ∙ sym (upto_is 121 ∙ lt-leb S (2 ^ 1134) (over 121 (lt_of_not-le h)))
      ]

-- ---- any value of the format: a NaN, an infinity and a negative number have no power and are not within
abbrev powered : Float → Bool
powered x = finite x && (leb 1 (power_of x) && leb (power_of x) 121)

abbrev pub within : Float → Bool
within x = lt (two_to 0) x && le x (two_to 121)

none_below : (x : Float) → le x (two_to 0) ≡ true → leb 1 (power_of x) ≡ false
none_below x h = elim (dec_le 1 (power_of x)) [ yes l ↦ absurd (true≢false (sym h ∙ (power-first x).before 0 (omega arith) l)) | no l ↦ lt-leb 1 (power_of x) (lt_of_not-le l) ]

within-is : (x : Float) → T (fits binary64 x) → powered x ≡ within x
unfolding lt
within-is nan h = refl
within-is (inf true) h = refl
within-is (inf false) h = unfold le in refl
within-is (fin true m e) h = rw (none_below (fin true m e) (unfold le in rw (lt-ltb 0 (m * up e * 2 ^ 61 + 1 * down e) (omega (arith, down_pos e)))))
within-is (fin false m e) h = let c = counted binary64 false m e h in rw (lower-is (fin false m e) _ c, upper_is (fin false m e) _ c)

-- what is within is a whole number of units
counts_of : (x : Float) → T (fits binary64 x) → T (within x) → (S : ℕ) × Counts binary64 x false S
unfolding lt
counts_of nan h t = absurd t
counts_of (inf true) h t = absurd t
counts_of (inf false) h t = absurd (unfold le in t)
counts_of (fin true m e) h t = absurd t
counts_of (fin false m e) h t = (_, counted binary64 false m e h)

-- a difference is finite only for finite numbers
finite-parts : (f : Format) (x y : Float) → T (finite (sub f x y)) → T (finite y) × T (finite x)
unfolding sub
finite-parts f nan y t = absurd t
finite-parts f (inf s) nan t = absurd t
finite-parts f (inf true) (inf true) t = absurd t
finite-parts f (inf true) (inf false) t = absurd t
finite-parts f (inf false) (inf true) t = absurd t
finite-parts f (inf false) (inf false) t = absurd t
finite-parts f (inf s) (fin t n d) h = absurd h
finite-parts f (fin s m e) nan t = absurd t
finite-parts f (fin s m e) (inf s') t = absurd t
finite-parts f (fin s m e) (fin s' n d) t = (tt, tt)

-- ---- a range
told : (w a b o : Bool) → (T w → T a × T b) → a && (b && (o && w)) ≡ o && w
told true a b o h = rw (is_true a (h tt).0, is_true b (h tt).1)
told false a b o h = simp and-false

module _ (min max : Float) where
  pub span_fits : T (fits binary64 (span_of min max))
  unfolding span_of
  span_fits = sub-fits binary64 max min

  abbrev binary64s : Bool
  binary64s = fits binary64 min && fits binary64 max

  -- it is good by three comparisons
  pub good-is : good_range min max ≡ binary64s && (lt min max && within (span_of min max))
  unfolding good_range span_of
  good-is =
      let x = span_of min max in
      let w = within-is x span_fits in
      rw w (ap (λ (b : Bool). binary64s && b) (told (within x) (finite min) (finite max) (lt min max) (λ t. finite-parts binary64 max min (and_l (finite x) (leb 1 (power_of x) && leb (power_of x) 121) (rw w t)))))

  pub good-finite : T (good_range min max) → T (finite min) × T (finite max)
  unfolding good_range
  good-finite t = let u = and_r binary64s _ t in (and_l (finite min) _ u, and_l (finite max) _ (and_r (finite min) _ u))

  pub good-fits : T (good_range min max) → T (fits binary64 min) × T (fits binary64 max)
  unfolding good_range
  good-fits t = let u = and_l binary64s _ t in (and_l (fits binary64 min) (fits binary64 max) u, and_r (fits binary64 min) (fits binary64 max) u)

pub spanned : {min max : Float} → T (good_range min max) → Spanned min max
spanned {min} {max} t =
    let x = span_of min max in
    let p = power_of x in
    let fit = span_fits min max in
    let w = and_r (lt min max) (within x) (and_r (binary64s min max) (lt min max && within x) (rw good-is at t)) in
    let c = counts_of x fit w in
    let q = and_r (finite x) (leb 1 p && leb p 121) (rw (← within-is x fit) at w) in
    let least = leb→le 1 p (and_l (leb 1 p) (leb p 121) q) in
    let most = leb→le p 121 (and_r (leb 1 p) (leb p 121) q) in
    let back : 1013 + (p - 1) ≡ 1012 + p = omega arith in
    record { units = c.0; counts = c.1; least = least; most = most; over = rw back at (over x c.0 c.1 (p - 1) (omega arith)); upto = upto x c.0 c.1 most }

-- ---- the ends of the powers, as the code has them
pub below-is : of_bits binary64 0x3c20000000000000 ≡ two_to 0
unfolding of_bits
below-is = refl

pub most-is : of_bits binary64 0x43b0000000000000 ≡ two_to 121
unfolding of_bits
most-is = refl
