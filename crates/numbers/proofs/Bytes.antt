-- Words and their bytes: each is read back from what the other was written as.
-- Assumes nothing.
use mathlib.Core.Path.{◌≡◌, refl, sym, ap, ◌∙◌}
use mathlib.Core.List.{List, [], ◌∷◌, ◌++◌}
use Prim.Native.Nat.{ℕ, zero, suc, ◌*◌, ◌+◌, ◌-◌, ◌/◌, ◌%◌, ◌^◌, ◌≤◌, ◌<◌}
use native.Mathlib.Nat.{pow-le-pow_right, pow-suc, mod-eq_of_lt, mod-lt, le_trans, one-mul, zero-mul, zero-add, one-le-pow}
use native.Mathlib.Omega.{arith}
use lib.ListN.{length, drop, get_or}
use lib.Seq.{drop_at}
use lib.Pow.{pow-add, pow_pos, mod-mod-pow}
use Rattle.numbers.specs.Words.{word_of, bytes_of}
use Rattle.numbers.specs.Digits.{spelt, digits, Below}
use Rattle.numbers.proofs.Digits.{spelt-append, length_digits, digits-split, spelt-lt, spelt-high, spelt-low, spelt-digits, digits-spelt}

-- eight bytes hold no more than 64 bits
within : {n k : ℕ} → n < 256 ^ k → k ≤ 8 → n % 2 ^ 64 ≡ n
within {n} {k} h e = mod-eq_of_lt (le_trans h (pow-le-pow_right {n = 256} (omega arith) {i = k} {j = 8} e))

spelt-within : (l : List ℕ) → length l ≤ 8 → spelt 256 0 l % 2 ^ 64 ≡ spelt 256 0 l
spelt-within l h = within (rw one-mul at (spelt-lt 256 (omega arith) 0 1 (omega arith) l)) h

pub length-bytes : (k n : ℕ) → length (bytes_of k n) ≡ k
unfolding bytes_of
length-bytes k n = length_digits 256 0 k n

pub word-of-bytes : (k n : ℕ) → k ≤ 8 → word_of (bytes_of k n) ≡ n % 256 ^ k
unfolding word_of bytes_of
word-of-bytes k n h =
    rw (spelt-digits 256 (omega arith) 0 0 k n, zero-mul, zero-add) (within (mod-lt n (one-le-pow k 256 (omega arith))) h)

pub bytes-of-word : (l : List ℕ) → length l ≤ 8 → Below 256 l → bytes_of (length l) (word_of l) ≡ l
unfolding word_of bytes_of
bytes-of-word l h b = rw (spelt-within l h) (digits-spelt 256 l b)

-- the place of a byte, in bits
pub bits : (k : ℕ) → 256 ^ k ≡ 2 ^ (8 * k)
bits zero = refl
bits (suc k) = rw (pow-suc, bits k) (sym (pow-add 2 (8 * k) 8) ∙ ap (λ (n : ℕ). 2 ^ n) (omega arith))

-- the first byte of a word
pub first_byte : (l : List ℕ) → 1 ≤ length l → length l ≤ 8 → get_or l 0 0 < 256 → word_of l / 2 ^ (8 * length l - 8) ≡ get_or l 0 0
unfolding word_of
first_byte [] o h b = absurd (omega arith)
first_byte (d ∷ l) o h b =
    let p : 8 * suc (length l) - 8 ≡ 8 * length l = omega arith in
    rw (spelt-within (d ∷ l) h, p, ← (bits (length l)), spelt-high 256 (omega arith) (0 * 256 + d % 256) l) (omega arith)

-- the last bytes of a word
pub last-bytes : (l m : List ℕ) → length m ≤ 8 → word_of (l ++ m) % 2 ^ (8 * length m) ≡ word_of m
unfolding word_of
last-bytes l m h =
    let k = 8 * length m in
    let p : 64 - k + k ≡ 64 = omega arith in
    let e = rw p at (mod-mod-pow (spelt 256 0 (l ++ m)) (64 - k) k) in
    rw (spelt-within m h, e, ← (bits (length m)), spelt-append) (spelt-low 256 (omega arith) (spelt 256 0 l) m)

pub word_lt : (l : List ℕ) → length l ≤ 8 → word_of l < 2 ^ (8 * length l)
word_lt l h = rw (← (last-bytes [] l h)) (mod-lt (word_of l) (pow_pos (8 * length l)))

-- the first bytes are those of the quotient
pub bytes-front : (j m n : ℕ) → j ≤ m → bytes_of m n ≡ bytes_of j (n / 2 ^ (8 * m - 8 * j)) ++ drop j (bytes_of m n)
unfolding bytes_of
bytes-front j m n h =
    let k = m - j in
    let e : j + k ≡ m = omega arith in
    let b : 256 ^ k ≡ 2 ^ (8 * m - 8 * j) = bits k ∙ ap (λ (x : ℕ). 2 ^ x) (omega arith) in
    let s = rw (e, b) at (digits-split 256 0 j k n) in
    let d = drop_at (digits 256 0 j (n / 2 ^ (8 * m - 8 * j))) (digits 256 0 k n) j (length_digits 256 0 j (n / 2 ^ (8 * m - 8 * j))) in
    s ∙ ap (λ (l : List ℕ). digits 256 0 j (n / 2 ^ (8 * m - 8 * j)) ++ l) (sym (ap (λ (l : List ℕ). drop j l) s ∙ d))
