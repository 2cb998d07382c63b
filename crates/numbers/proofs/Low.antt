-- Words and their bytes, low byte first: each is read back from what the other was written as.
-- Assumes nothing.
use mathlib.Core.Path.{◌≡◌, refl, ap}
use mathlib.Core.List.{List, [], ◌∷◌}
use Prim.Native.Nat.{ℕ, zero, suc, ◌*◌, ◌+◌, ◌/◌, ◌%◌, ◌^◌, ◌≤◌, ◌<◌}
use native.Mathlib.Nat.{pow-zero, pow-suc, pow-succ', pow-le-pow_right, mod-eq_of_lt, mod-lt, mod-one, div-one, div-div-eq-div-mul, le_trans, one-le-pow}
use native.Mathlib.Omega.{arith}
use lib.Arith.{mod-mul}
use lib.ListN.{length, get_or}
use Rattle.numbers.specs.Words.{low_spelt, low_word_of, low_bytes_of}
use Rattle.numbers.specs.Digits.{Below}

pub length-low : (k n : ℕ) → length (low_bytes_of k n) ≡ k
length-low zero n = refl
length-low (suc k) n = ap suc (length-low k _)

-- byte i, and what is left behind it
pub low-at : (k n i : ℕ) → i < k → get_or (low_bytes_of k n) i 0 ≡ n / 256 ^ i % 256
low-at zero n i h = absurd (omega arith)
low-at (suc k) n zero h = rw (pow-zero, div-one)
low-at (suc k) n (suc i) h = rw (pow-succ', ← div-div-eq-div-mul) (low-at k (n / 256) i (omega arith))

pub low-left : (n i : ℕ) → n / 256 ^ (i + 1) ≡ n / 256 ^ i / 256
low-left n i = let e : i + 1 ≡ suc i = omega arith in rw (e, pow-suc, ← div-div-eq-div-mul)

spelt-low : (k n : ℕ) → low_spelt (low_bytes_of k n) ≡ n % 256 ^ k
spelt-low zero n = rw (pow-zero, mod-one)
spelt-low (suc k) n =
    rw (spelt-low k (n / 256), pow-suc) (omega (arith, mod-mul n {m = 256 ^ k} {c = 256} (one-le-pow k 256 (omega arith)) (omega arith)))

low-lt : (l : List ℕ) → low_spelt l < 256 ^ length l
low-lt [] = rw pow-zero (omega arith)
low-lt (b ∷ l) = rw pow-suc (omega (arith, low-lt l))

-- eight bytes hold no more than 64 bits
within : {n k : ℕ} → n < 256 ^ k → k ≤ 8 → n % 2 ^ 64 ≡ n
within {n} {k} h e = mod-eq_of_lt (le_trans h (pow-le-pow_right {n = 256} (omega arith) {i = k} {j = 8} e))

pub low-word-of-bytes : (k n : ℕ) → k ≤ 8 → low_word_of (low_bytes_of k n) ≡ n % 256 ^ k
unfolding low_word_of
low-word-of-bytes k n h = rw (spelt-low k n) (within (mod-lt n (one-le-pow k 256 (omega arith))) h)

bytes-spelt : (l : List ℕ) → Below 256 l → low_bytes_of (length l) (low_spelt l) ≡ l
bytes-spelt [] b = refl
bytes-spelt (d ∷ l) b =
    let p : (d % 256 + 256 * low_spelt l) % 256 ≡ d = omega (arith, b 0) in
    let q : (d % 256 + 256 * low_spelt l) / 256 ≡ low_spelt l = omega arith in
    rw (p, q, bytes-spelt l (λ i. b (suc i)))

pub low-bytes-of-word : (l : List ℕ) → length l ≤ 8 → Below 256 l → low_bytes_of (length l) (low_word_of l) ≡ l
unfolding low_word_of
low-bytes-of-word l h b = rw (within (low-lt l) h) (bytes-spelt l b)
