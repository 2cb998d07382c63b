-- Stored examples of what the program prints: one of each of the fourteen ways to be refused, and packs that are accepted,
-- of each mode, full and sparse, and one whose slots are of each state that is no value.
use Rattle.std.specs.Prelude.{ℕ, List, [], ◌∷◌, ◌++◌, replicate}
use Rattle.text.specs.Text.{ascii}
use Rattle.told.specs.Printed.{printed}

-- a pack, and its text
pub record Example : Type 0 where
  pub pack : List ℕ
  pub text : List ℕ

abbrev prints : List ℕ → List ℕ → Example
prints pack text = record { pack = pack; text = text }

-- 1 and 2 as binary32
abbrev D : List ℕ
D = 0x3F ∷ 0x80 ∷ 0x00 ∷ 0x00 ∷ 0x40 ∷ 0x00 ∷ 0x00 ∷ 0x00 ∷ []

abbrev pub stored : List Example
stored =
    prints []
    (ascii "rule a 0 refused 1 0 0\n"
    ++ ascii "The pack does not begin with a matrix size that can be read.\n")
    ∷ prints (0x02 ∷ [])
    (ascii "rule b 1 refused 1 1 0\n"
    ++ ascii "The parse control needs 1 byte more, and 0 are there.\n")
    ∷ prints (0x02 ∷ 0x80 ∷ 0x00 ∷ [])
    (ascii "rule c 1 refused 2 0 0\n"
    ++ ascii "The parse control gives 0 bytes to a deviation and 0 to a correlation.\n")
    ∷ prints (0x82 ∷ 0x01 ∷ 0x80 ∷ 0x04 ∷ [])
    (ascii "rule d 0 refused 3 257 0 256\n"
    ++ ascii "The matrix is said to have 257 rows, and 0 to 256 can be read.\n")
    ∷ prints (0x02 ∷ 0x90 ∷ 0x04 ∷ 0x3F ∷ 0x80 ∷ [])
    (ascii "rule e 3 refused 1 8 2\n"
    ++ ascii "The 2 deviations of 4 bytes need 8 bytes, and 2 are there.\n")
    ∷ prints (0x03 ∷ 0x92 ∷ 0x00 ∷ 0x01 ∷ 0x02 ∷ 0x03 ∷ 0x04 ∷ [])
    (ascii "rule f 3 refused 1 6 4\n"
    ++ ascii "The 3 correlations of 2 bytes need 6 bytes, and 4 are there.\n")
    ∷ prints (0x09 ∷ 0xB1 ∷ 0x00 ∷ 0xFF ∷ 0xFF ∷ 0xFF ∷ [])
    (ascii "rule g 3 refused 1 5 3\n"
    ++ ascii "The bit vector of 36 correlations needs 5 bytes, and 3 are there.\n")
    ∷ prints (0x02 ∷ 0xB1 ∷ 0x04 ∷ 0x80 ∷ 0x3F ∷ 0x80 ∷ 0x00 ∷ 0x00 ∷ 0x40 ∷ 0x00 ∷ 0x00 ∷ [])
    (ascii "rule h 8 refused 1 4 3\n"
    ++ ascii "A deviation needs 4 bytes, and 3 are left.\n")
    ∷ prints ((0x02 ∷ 0x91 ∷ 0x14 ∷ []) ++ D ++ (0x60 ∷ []))
    (ascii "rule h 3 refused 2 0 4\n"
    ++ ascii "A deviation of 4 bytes in this form can't be read: only IEEE numbers of 4 or 8 bytes can.\n")
    ∷ prints ((0x02 ∷ 0xB2 ∷ 0x04 ∷ 0x80 ∷ []) ++ D ++ (0x01 ∷ []))
    (ascii "rule i 12 refused 1 2 1\n"
    ++ ascii "The correlations that the bit vector marks present need 2 bytes, and 1 are left.\n")
    ∷ prints ((0x03 ∷ 0x92 ∷ 0x04 ∷ []) ++ D ++ (0x3F ∷ 0x80 ∷ 0x00 ∷ 0x00 ∷ 0x01 ∷ 0x02 ∷ 0x03 ∷ 0x04 ∷ 0x05 ∷ []))
    (ascii "rule j 19 refused 1 2 1\n"
    ++ ascii "A correlation needs 2 bytes, and 1 are left.\n")
    ∷ prints ((0x02 ∷ 0xBF ∷ 0x04 ∷ 0x80 ∷ []) ++ D ++ replicate 15 0)
    (ascii "rule j 12 refused 4 15\n"
    ++ ascii "A mapped correlation of 15 bytes can't be read: only those of 1 to 8 bytes can.\n")
    ∷ prints ((0x02 ∷ 0x83 ∷ 0x04 ∷ []) ++ D ++ (0x01 ∷ 0x02 ∷ 0x03 ∷ []))
    (ascii "rule j 11 refused 2 0 3\n"
    ++ ascii "An IEEE correlation of 3 bytes can't be read: only those of 4 or 8 bytes can.\n")
    ∷ prints ((0x02 ∷ 0x91 ∷ 0x04 ∷ []) ++ D ++ (0x60 ∷ 0x00 ∷ []))
    (ascii "rule k 12 refused 2 12 13\n"
    ++ ascii "The pack ends after 12 bytes, and 13 are there.\n")
    ∷ prints ((0x02 ∷ 0x91 ∷ 0x04 ∷ []) ++ D ++ (0x60 ∷ []))
    (ascii "accepted 12\n"
    ++ ascii "n 0 1\n"
    ++ ascii "control 1 3\n"
    ++ ascii "vector 3 3\n"
    ++ ascii "deviations 3 11\n"
    ++ ascii "codes 11 12\n"
    ++ ascii "slot 0 1 1 11 12 60\n")
    ∷ prints ((0x03 ∷ 0xB1 ∷ 0x04 ∷ 0x40 ∷ []) ++ D ++ (0x3F ∷ 0x80 ∷ 0x00 ∷ 0x00 ∷ 0x60 ∷ []))
    (ascii "accepted 17\n"
    ++ ascii "n 0 1\n"
    ++ ascii "control 1 3\n"
    ++ ascii "vector 3 4\n"
    ++ ascii "deviations 4 16\n"
    ++ ascii "codes 16 17\n"
    ++ ascii "slot 0 1 0 absent\n"
    ++ ascii "slot 0 2 1 16 17 60\n"
    ++ ascii "slot 1 2 0 absent\n")
    ∷ prints ((0x02 ∷ 0x41 ∷ []) ++ D ++ (0x60 ∷ []))
    (ascii "accepted 11\n"
    ++ ascii "n 0 1\n"
    ++ ascii "control 1 2\n"
    ++ ascii "vector 2 2\n"
    ++ ascii "deviations 2 10\n"
    ++ ascii "codes 10 11\n"
    ++ ascii "slot 0 1 1 10 11 60\n")
    ∷ prints ((0x03 ∷ 0x49 ∷ 0x40 ∷ []) ++ D ++ (0x3F ∷ 0x80 ∷ 0x00 ∷ 0x00 ∷ 0x60 ∷ []))
    (ascii "accepted 16\n"
    ++ ascii "n 0 1\n"
    ++ ascii "control 1 2\n"
    ++ ascii "vector 2 3\n"
    ++ ascii "deviations 3 15\n"
    ++ ascii "codes 15 16\n"
    ++ ascii "slot 0 1 0 absent\n"
    ++ ascii "slot 0 2 1 15 16 60\n"
    ++ ascii "slot 1 2 0 absent\n")
    ∷ prints (0x03 ∷ 0x91 ∷ 0x00 ∷ 0xE8 ∷ 0xE2 ∷ 0x81 ∷ [])
    (ascii "accepted 6\n"
    ++ ascii "n 0 1\n"
    ++ ascii "control 1 3\n"
    ++ ascii "vector 3 3\n"
    ++ ascii "deviations 3 3\n"
    ++ ascii "codes 3 6\n"
    ++ ascii "slot 0 1 2 3 4 E8\n"
    ++ ascii "slot 0 2 3 4 5 E2\n"
    ++ ascii "slot 1 2 4 5 6 81\n")
    ∷ []

abbrev pub texts : List Example → List (List ℕ)
texts [] = []
texts (e ∷ es) = e.text ∷ texts es

abbrev pub given : List Example → List (List ℕ)
given [] = []
given (e ∷ es) = printed e.pack ∷ given es
