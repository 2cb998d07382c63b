-- Text as a list of ASCII codes: words, and numbers in decimal and hex.
use Rattle.std.specs.Prelude.{ℕ, zero, suc, ◌+◌, ◌/◌, ◌%◌, List, [], ◌∷◌, ◌++◌, ltb}
use Prim.Native.Char.{code}
use Prim.Native.String.{String}
use Prim.Native.String as text
use Rattle.answers.specs.Table.{pick}

-- the codes of a text
abbrev pub ascii : String → List ℕ
ascii text.[] = []
ascii (text.◌∷◌ c cs) = code c ∷ ascii cs

-- a digit below 16: `0` to `9`, `A` to `F`
abbrev pub glyph : ℕ → ℕ
glyph d = pick (ltb d 10) (0x30 + d) (0x37 + d)

-- the k lowest digits of n, the highest first
abbrev pub figures : ℕ → ℕ → ℕ → List ℕ
figures base zero n = []
figures base (suc k) n = figures base k (n / base) ++ (glyph (n % base) ∷ [])

-- how many decimal digits n has, k more than one at most
abbrev pub places_up_to : ℕ → ℕ → ℕ
places_up_to zero n = 1
places_up_to (suc k) n = pick (ltb n 10) 1 (suc (places_up_to k (n / 10)))

-- 2^64-1 has 20
unfoldable pub places : ℕ → ℕ
places n = places_up_to 19 n

-- no zeros in front, but for 0 itself
abbrev pub decimal : ℕ → List ℕ
decimal n = figures 10 (places n) n

-- the bits of a binary64
unfoldable pub hex : ℕ → List ℕ
hex bits = figures 16 16 bits

abbrev pub space : List ℕ
space = ascii " "

abbrev pub newline : List ℕ
newline = ascii "\n"

-- a text, and a whole number behind it
abbrev pub named : List ℕ → ℕ → List ℕ
named text n = text ++ decimal n

-- a space, and the bits of a binary64
abbrev pub spaced_bits : ℕ → List ℕ
spaced_bits bits = space ++ hex bits
