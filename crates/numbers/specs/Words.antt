-- Words of bytes, high byte first and low byte first.
use Rattle.std.specs.Prelude.{ℕ, zero, suc, ◌+◌, ◌*◌, ◌/◌, ◌%◌, ◌^◌, List, [], ◌∷◌}
use Rattle.numbers.specs.Digits.{spelt, digits}

-- ---- big-endian
-- the number that the bytes spell, high byte first, in 64 bits: of more than eight bytes the last eight count
unfoldable pub word_of : List ℕ → ℕ
word_of bytes = spelt 256 0 bytes % 2 ^ 64

-- the k low bytes of n, high byte first
unfoldable pub bytes_of : ℕ → ℕ → List ℕ
bytes_of k n = digits 256 0 k n

-- ---- little-endian
-- the number that the bytes spell, low byte first; of each only what lies below 256 counts
abbrev pub low_spelt : List ℕ → ℕ
low_spelt [] = 0
low_spelt (b ∷ bytes) = b % 256 + 256 * low_spelt bytes

-- in 64 bits: of more than eight bytes the first eight count
unfoldable pub low_word_of : List ℕ → ℕ
low_word_of bytes = low_spelt bytes % 2 ^ 64

-- the k low bytes of n, low byte first
abbrev pub low_bytes_of : ℕ → ℕ → List ℕ
low_bytes_of zero n = []
low_bytes_of (suc k) n = n % 256 ∷ low_bytes_of k (n / 256)

-- ---- both
-- one byte more behind those that n spells, in 64 bits
abbrev pub more : ℕ → ℕ → ℕ
more n b = (n * 256 + b % 256) % 2 ^ 64
