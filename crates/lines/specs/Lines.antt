-- The lines that the program prints. Every line ends with a newline.
use Rattle.std.specs.Prelude.{ℕ, List, [], ◌∷◌, ◌++◌, length, get_or}
use Rattle.answers.specs.Table.{Entry, whole, bits64, Answer, wholes}
use Rattle.answers.specs.Lent.{joined}
use Rattle.text.specs.Text.{ascii, space, newline, named, spaced_bits}

-- ---- what an answer carries, each entry behind a space: a whole number in decimal, a binary64 by its bits
abbrev pub entry_text : Entry → List ℕ
entry_text (whole n) = named space n
entry_text (bits64 b) = spaced_bits b

abbrev pub entries : List Entry → List ℕ
entries [] = []
entries (e ∷ es) = entry_text e ++ entries es

abbrev pub numbers : List ℕ → List ℕ
numbers ns = entries (wholes ns)

-- ---- a refusal: its number, then what it carries
abbrev pub refused_text : Answer → List ℕ
refused_text a = named (ascii "refused ") a.number ++ entries a.carries

abbrev pub refused_line : Answer → List ℕ
refused_line a = refused_text a ++ newline

-- ---- a pack that was read
-- N, the deviation count and M
abbrev pub n_line : ℕ → ℕ → ℕ → List ℕ
n_line n d m = named (ascii "n ") n ++ named (ascii " deviations ") d ++ named (ascii " slots ") m ++ newline

-- a name, its numbers, and the bits of a binary64
abbrev pub bits_line : List ℕ → List ℕ → ℕ → List ℕ
bits_line name values bits = name ++ numbers values ++ spaced_bits bits ++ newline

-- row, bits
abbrev pub s_line : ℕ → ℕ → List ℕ
s_line i bits = bits_line (ascii "s") (i ∷ []) bits

-- i, j, state, bits
abbrev pub c_line : ℕ → ℕ → ℕ → ℕ → List ℕ
c_line i j state bits = bits_line (ascii "c") (i ∷ j ∷ state ∷ []) bits

abbrev pub deviation_lines : List ℕ → List ℕ
deviation_lines ds = joined (length ds) (λ i. s_line i (get_or ds i 0))
