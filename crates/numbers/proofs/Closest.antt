-- `closest a b`, the whole number nearest to a / b: by how twice the remainder compares with b, of a whole number,
-- and against one.
-- Assumes nothing.
use mathlib.Core.Path.{◌≡◌, refl, sym, ap, ◌∙◌, subst}
use mathlib.Core.Bool.{not}
use Prim.Native.Nat.{ℕ, ◌+◌, ◌*◌, ◌/◌, ◌%◌, ◌^◌, ◌≤◌, ◌<◌, compare, Ordering}
use native.Mathlib.Nat.{le_trans, le_of_eq, zero-lt-suc, add_comm, mul_assoc, mul-pos, div-one, mod-one, div-eq_of_lt, mod-eq_of_lt}
use native.Mathlib.Omega.{arith}
use lib.Dec.{T, is_le, compare_is_eq, eqb, leb→le, nleb→lt, eqb→eq, eqb_refl}
use lib.Arith.{lt_of_le-ne}
use lib.Pow.{pow-add, pow_pos}
use lib.Ieee.{nearest}
use lib.Ieee.Nearest.{closest, closest_mono, closest_same}

-- what `compare` says
abbrev pub Cmp : Ordering → ℕ → ℕ → Type 0
Cmp Ordering.lt a b = a < b
Cmp Ordering.eq a b = a ≡ b
Cmp Ordering.gt a b = b < a

pub cmp : (a b : ℕ) → Cmp (compare a b) a b
cmp a b = go (compare a b) (leb→le a b) (nleb→lt a b) (eqb→eq a b) (λ (e : a ≡ b). subst (λ (x : ℕ). T (eqb a x)) e (eqb_refl a))
  where
    go : (o : Ordering) → (T (is_le o) → a ≤ b) → (T (not (is_le o)) → b < a) → (T (compare_is_eq o) → a ≡ b) → (a ≡ b → T (compare_is_eq o)) → Cmp o a b
    go Ordering.lt h k e n = lt_of_le-ne (h tt) n
    go Ordering.eq h k e n = e tt
    go Ordering.gt h k e n = k tt

-- the order that holds is the one that `compare` gives
told : (o p : Ordering) (a b : ℕ) → Cmp o a b → Cmp p a b → o ≡ p
told Ordering.lt Ordering.lt a b h k = refl
told Ordering.lt Ordering.eq a b h k = absurd (omega arith)
told Ordering.lt Ordering.gt a b h k = absurd (omega arith)
told Ordering.eq Ordering.lt a b h k = absurd (omega arith)
told Ordering.eq Ordering.eq a b h k = refl
told Ordering.eq Ordering.gt a b h k = absurd (omega arith)
told Ordering.gt Ordering.lt a b h k = absurd (omega arith)
told Ordering.gt Ordering.eq a b h k = absurd (omega arith)
told Ordering.gt Ordering.gt a b h k = refl

-- the three arms of a rounding: below a half, a tie, above a half
pub closest-by : (o : Ordering) (a b : ℕ) → Cmp o (a % b * 2) b → nearest (a / b) o ≡ closest a b
closest-by o a b h = ap (λ (p : Ordering). nearest (a / b) p) (told o (compare (a % b * 2) b) (a % b * 2) b h (cmp (a % b * 2) b))

-- a whole number is its own nearest
pub closest-whole : (n : ℕ) → closest n 1 ≡ n
closest-whole n = ap (λ (x : ℕ). nearest x (compare (n % 1 * 2) 1)) (div-one n) ∙ ap (λ (x : ℕ). nearest n (compare (x * 2) 1)) (mod-one n)

-- rounding does not cross a whole number
pub closest-ge : (r b n : ℕ) → 0 < b → r * b ≤ n → r ≤ closest n b
closest-ge r b n B h = le_trans (le_of_eq (sym (closest-whole r))) (closest_mono r 1 n b (zero-lt-suc 0) B (omega arith))

pub closest-le : (r b n : ℕ) → 0 < b → n ≤ r * b → closest n b ≤ r
closest-le r b n B h = le_trans (closest_mono n b r 1 B (zero-lt-suc 0) (omega arith)) (le_of_eq (closest-whole r))

-- below a half is 0
pub closest-none : (n b : ℕ) → n * 2 < b → closest n b ≡ 0
closest-none n b h =
    let q : n / b ≡ 0 = div-eq_of_lt (omega arith) in
    let r : n % b ≡ n = mod-eq_of_lt (omega arith) in
    sym (closest-by Ordering.lt n b (rw r h)) ∙ q

-- the same fraction with its powers of two taken out
pub closest-scaled : (m a l k c d : ℕ) → a + c ≡ l + k + d → closest (m * 2 ^ a) (2 ^ l * 2 ^ k) ≡ closest (m * 2 ^ d) (2 ^ c)
closest-scaled m a l k c d e =
    closest_same (m * 2 ^ a) (2 ^ l * 2 ^ k) (m * 2 ^ d) (2 ^ c) (mul-pos (pow_pos l) (pow_pos k)) (pow_pos c)
    (mul_assoc m (2 ^ a) (2 ^ c)
    ∙ ap (λ (x : ℕ). m * x) (sym (pow-add 2 a c) ∙ ap (λ (x : ℕ). 2 ^ x) (e ∙ add_comm (l + k) d) ∙ pow-add 2 d (l + k) ∙ ap (λ (x : ℕ). 2 ^ d * x) (pow-add 2 l k))
    ∙ sym (mul_assoc m (2 ^ d) (2 ^ l * 2 ^ k)))
