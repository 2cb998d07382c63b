-- Floats in units of their format's least value: an operation sees only what its operands are worth, and rounds once.
-- Assumes nothing.
use mathlib.Core.Path.{◌≡◌, refl, sym, ap, ap₂, ◌∙◌, subst}
use mathlib.Core.Bool.{Bool, false, not, ◌&&◌}
use mathlib.Core.Logic.{inl, inr}
use Prim.Native.Nat.{ℕ, ◌+◌, ◌-◌, ◌*◌, ◌^◌, ◌≤◌, ◌<◌}
use native.Mathlib.Nat.{le_of_eq, lt_of_not-le, lt_of_le_of_lt, lt_of_lt_of_le, eq-or-lt_of_le, mul_comm, mul_assoc, mul-one, one-mul, mul-sub, mul-pos, mul-le-mul_right, mul-lt-mul_of_pos_right, le_of_mul-le-mul_right, lt_of_mul-lt-mul_right}
use native.Mathlib.Decide.{dec_le}
use native.Mathlib.Omega.{arith}
use borrow.Author.Tests.{lt-ltb, le-ltb}
use lib.Dec.{ltb, lit<}
use lib.IntN.{ℤ, pos}
use lib.Pow.{pow-add, pow_pos, pow_mono, shl-shr}
use lib.Ieee.{Float, nan, inf, fin, Format, prec, low, up, down, size, round, sum, add, neg, mul, div, of_int}
use lib.Ieee.Fits.{down_pos, two, two-le_pos, round_is}
use lib.Ieee.Exact.{HasValue, round_exact, units_val}
use lib.Ieee.Nearest.{closest, closest_same}
use lib.Ieee.Order.{drop, kept}
use lib.Ieee.Scale.{round_same, grid, overflow}
use Rattle.imapb.specs.Mapping.{power}
use Rattle.imapb.proofs.Rounded.{cut, rounded}

-- x is a number of a units, negative where s is true
abbrev pub Counts : Format → Float → Bool → ℕ → Type 0
Counts f x s a = HasValue x s a (2 ^ low f)

-- what holds of every ±m * 2 ^ e that is worth ±a / c holds of x
pub by_value : (P : Float → Type 0) (s : Bool) (a c : ℕ) → ((m : ℕ) (e : ℤ) → m * up e * c ≡ a * down e → P (fin s m e)) → (x : Float) → HasValue x s a c → P x
by_value P s a c k nan h = absurd h
by_value P s a c k (inf t) h = absurd h
by_value P s a c k (fin t m e) h = subst (λ (r : Bool). P (fin r m e)) (sym h.0) (k m e h.1)

-- ---- rounding, with either sign
pub round-signed : (f : Format) (s : Bool) (n : ℕ) → rounded (prec f) n < overflow f → Counts f (round f s n (2 ^ low f)) s (rounded (prec f) n)
round-signed f s n h =
    let l = low f in
    let k = cut (prec f) n in
    let e : grid f n (2 ^ l) ≡ rounded (prec f) n =
    ap (λ (z : ℕ). closest (n * 2 ^ l) (2 ^ l * 2 ^ (size z - prec f)) * 2 ^ (size z - prec f)) (shl-shr n l)
    ∙ ap (λ (z : ℕ). z * 2 ^ k) (closest_same (n * 2 ^ l) (2 ^ l * 2 ^ k) n (2 ^ k) (mul-pos (pow_pos l) (pow_pos k)) (pow_pos k) (mul_assoc n (2 ^ l) (2 ^ k))) in
    subst (λ (g : ℕ). Counts f (round f s n (2 ^ l)) s g) e
    (rw (round_is f s n (2 ^ l)) (units_val f s (kept (prec f) (n * 2 ^ l) (2 ^ l)) (drop (prec f) (n * 2 ^ l) (2 ^ l)) (lt_of_le_of_lt (le_of_eq e) h)))

pub round-counts : (f : Format) (n : ℕ) → rounded (prec f) n < overflow f → Counts f (round f false n (2 ^ low f)) false (rounded (prec f) n)
round-counts f = round-signed f false

-- a number of `prec` digits, or the carry past them, is kept as it is
pub exact : (f : Format) (s : Bool) (q j : ℕ) → q ≤ 2 ^ prec f → q * 2 ^ j < overflow f → Counts f (round f s (q * 2 ^ j) (2 ^ low f)) s (q * 2 ^ j)
exact f s q j h o =
    elim (eq-or-lt_of_le h) [
      | inl e ↦
          let w : q * 2 ^ j ≡ 1 * 2 ^ (prec f + j) = ap (λ (z : ℕ). z * 2 ^ j) e ∙ sym (pow-add 2 (prec f) j) ∙ sym (one-mul (2 ^ (prec f + j))) in
          round_exact f s (q * 2 ^ j) (2 ^ low f) 1 (prec f + j) (pow_pos (low f)) (lt_of_lt_of_le (lit< tt) (pow_mono {i = 1} (two-le_pos (prec f) (two f))))
          (lt_of_le_of_lt (le_of_eq (sym w)) o) (ap (λ (z : ℕ). z * 2 ^ low f) w)
      | inr l ↦ round_exact f s (q * 2 ^ j) (2 ^ low f) q j (pow_pos (low f)) l o refl
    ]

-- ---- the operations
pub int_is : (f : Format) (y : ℕ) → of_int f (pos y) ≡ round f false (y * 2 ^ low f) (2 ^ low f)
unfolding of_int
int_is f y = round_same f false y 1 (y * 2 ^ low f) (2 ^ low f) (lit< tt) (pow_pos (low f)) (sym (mul-one (y * 2 ^ low f)))

pub mul_is : (f : Format) (t : ℕ) (x : Float) (a : ℕ) → Counts f x false a → mul f x (power t) ≡ round f false (a * 2 ^ t) (2 ^ low f)
unfolding mul
mul_is f t x a =
    by_value (λ (z : Float). mul f z (power t) ≡ round f false (a * 2 ^ t) (2 ^ low f)) false a (2 ^ low f)
    (λ m e k. round_same f false (m * up e * (1 * 2 ^ t)) (down e * 1) (a * 2 ^ t) (2 ^ low f) (mul-pos (down_pos e) (lit< tt)) (pow_pos (low f))
    (omega (arith, ap (λ (z : ℕ). z * 2 ^ t) k)))
    x

pub div_is : (f : Format) (t : ℕ) (x : Float) (a : ℕ) → Counts f x false (a * 2 ^ t) → div f x (power t) ≡ round f false a (2 ^ low f)
unfolding div
div_is f t x a =
    by_value (λ (z : Float). div f z (power t) ≡ round f false a (2 ^ low f)) false (a * 2 ^ t) (2 ^ low f)
    (λ m e k. round_same f false (m * up e * 1) (1 * 2 ^ t * down e) a (2 ^ low f) (mul-pos (mul-pos (lit< tt) (pow_pos t)) (down_pos e)) (pow_pos (low f)) (omega arith))
    x

pub neg-counts : (f : Format) (x : Float) (s : Bool) (a : ℕ) → Counts f x s a → Counts f (neg x) (not s) a
unfolding neg
neg-counts f x s a = by_value (λ (z : Float). Counts f (neg z) (not s) a) s a (2 ^ low f) (λ m e k. (refl, k)) x

sub-mul : (a b c : ℕ) → (a - b) * c ≡ a * c - b * c
sub-mul a b c = mul_comm (a - b) c ∙ mul-sub c a b ∙ ap₂ (λ (x y : ℕ). x - y) (mul_comm c a) (mul_comm c b)

-- a / c and b / c are a' / c' and b' / c'
module _ (a b c a' b' c' : ℕ) (C : 0 < c) (C' : 0 < c') (p : a * c' ≡ a' * c) (q : b * c' ≡ b' * c) where
  pub same-order : ltb a b ≡ ltb a' b'
  same-order =
      elim (dec_le b a) [
        | yes h ↦ le-ltb a b h ∙ sym (le-ltb a' b' (le_of_mul-le-mul_right (omega (arith, mul-le-mul_right c' h)) C))
        | no h ↦ lt-ltb a b (lt_of_not-le h) ∙ sym (lt-ltb a' b' (lt_of_mul-lt-mul_right c (omega (arith, mul-lt-mul_of_pos_right (lt_of_not-le h) C'))))
      ]

  same-less : (b - a) * c' ≡ (b' - a') * c
  same-less = sub-mul b a c' ∙ ap₂ (λ (x y : ℕ). x - y) q p ∙ sym (sub-mul b' a' c)

sum_same : (f : Format) (s t : Bool) (a b c a' b' c' : ℕ) → 0 < c → 0 < c' → a * c' ≡ a' * c → b * c' ≡ b' * c → sum f s a t b c ≡ sum f s a' t b' c'
unfolding sum
sum_same f s t a b c a' b' c' C C' p q =
    rw (
      same-order a b c a' b' c' C C' p q,
      same-order b a c b' a' c' C C' q p,
      round_same f s (a + b) c (a' + b') c' C C' (omega arith),
      round_same f t (b - a) c (b' - a') c' C C' (same-less a b c a' b' c' C C' p q),
      round_same f (s && ltb b' a') (a - b) c (a' - b') c' C C' (same-less b a c b' a' c' C C' q p),
    )

pub add_is : (f : Format) (x y : Float) (s t : Bool) (a b : ℕ) → Counts f x s a → Counts f y t b → add f x y ≡ sum f s a t b (2 ^ low f)
unfolding add
add_is f x y s t a b h k =
    by_value (λ (x : Float). add f x y ≡ sum f s a t b (2 ^ low f)) s a (2 ^ low f)
    (λ m e p. by_value (λ (y : Float). add f (fin s m e) y ≡ sum f s a t b (2 ^ low f)) t b (2 ^ low f)
    (λ n d q. sum_same f s t (m * up e * down d) (n * up d * down e) (down e * down d) a b (2 ^ low f) (mul-pos (down_pos e) (down_pos d)) (pow_pos (low f))
    (omega (arith, ap (λ (z : ℕ). z * down d) p)) (omega (arith, ap (λ (z : ℕ). z * down e) q)))
    y k)
    x h
