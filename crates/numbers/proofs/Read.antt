-- Words read byte by byte, from either end.
-- Assumes nothing.
use mathlib.Core.Path.{◌≡◌, refl}
use mathlib.Core.List.{List, [], ◌∷◌, reverse}
use Prim.Native.Nat.{ℕ, ◌%◌, ◌^◌, ◌*◌, ◌+◌}
use native.Mathlib.Omega.{arith}
use Rattle.std.specs.List.{fold}
use Rattle.std.proofs.lemmas.List.{reverse-append}
use Rattle.std.proofs.lemmas.List.Sums.{fold-append}
use Rattle.numbers.specs.Digits.{spelt}
use Rattle.numbers.specs.Words.{word_of, low_spelt, low_word_of, more}

read_on : (n : ℕ) (bytes : List ℕ) → fold more (n % 2 ^ 64) bytes ≡ spelt 256 n bytes % 2 ^ 64
read_on n [] = refl
read_on n (b ∷ bytes) =
    let e : more (n % 2 ^ 64) b ≡ (n * 256 + b % 256) % 2 ^ 64 = omega arith in
    rw e (read_on (n * 256 + b % 256) bytes)

-- from the front
pub read : (bytes : List ℕ) → fold more 0 bytes ≡ word_of bytes
unfolding word_of
read bytes = read_on 0 bytes

-- and from the back
low : (bytes : List ℕ) → fold more 0 (reverse bytes) ≡ low_spelt bytes % 2 ^ 64
low [] = refl
low (b ∷ bytes) =
    let e : (low_spelt bytes % 2 ^ 64 * 256 + b % 256) % 2 ^ 64 ≡ (b % 256 + 256 * low_spelt bytes) % 2 ^ 64 = omega arith in
    rw (reverse-append (b ∷ []) bytes, fold-append more 0 (reverse bytes) (b ∷ []), low bytes) e

pub read-back : (bytes : List ℕ) → fold more 0 (reverse bytes) ≡ low_word_of bytes
unfolding low_word_of
read-back bytes = low bytes
