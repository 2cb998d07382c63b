-- Codes in mapped form, many of one length: what the faster pass may count on, and what it stores.
use Rattle.std.specs.Prelude.{◌≡◌, ℕ, ◌+◌, ◌*◌, ◌/◌, ◌<◌, ◌≤◌, true, List, [], ◌∷◌, length, slice_index}
use Rattle.answers.specs.Table.{pick}
use Rattle.numbers.specs.Words.{word_of}
use Rattle.imapb.specs.declared.code_length.Mapping.{Mapping}
use Rattle.imapb.specs.Special.{reading}
use Rattle.layout.specs.declared.control.ParseControl.{ParseControl}
use Rattle.elements.specs.Elements.{part, vector_bit, ones_before, present_in, value_bits}
use Rattle.elements.specs.Held.{SlotsHeld}

-- ---- codes of L bytes in mapped form
-- number n of those that start at `codes`
abbrev pub code_no : List ℕ → ℕ → ℕ → ℕ → ℕ
code_no bytes codes L n = word_of (part bytes (codes + n * L) L)

abbrev pub mapped_in : List ℕ → ℕ → ℕ → ℕ → ℕ
mapped_in bytes codes L n = value_bits (reading L (code_no bytes codes L n))

-- none of the first n exceeds x
pub record Within (bytes : List ℕ) (codes L n x : ℕ) : Type 0 where
  pub each : (i : ℕ) → i < n → code_no bytes codes L i ≤ x

-- the slots that a Bit Vector, of the bytes v from `at` on, marks present: whether slot k is, and its number
module _ (v : List ℕ) (at : ℕ) where
  abbrev pub mark_in : ℕ → ℕ
  mark_in k = pick (vector_bit v at k) 1 0

  abbrev pub marked_in : List ℕ → ℕ → ℕ → ℕ → ℕ
  marked_in bytes codes L k = pick (vector_bit v at k) (mapped_in bytes codes L (ones_before v at k)) 0

-- byte i of a Bit Vector, alone
abbrev pub one_byte : List ℕ → ℕ → ℕ → List ℕ
one_byte v at i = slice_index v (at + i) ∷ []

-- n codes from `codes` on are there, and so much stands before them that each ends a word of eight bytes
-- (of no type in src/: how many codes the slots of a Bit Vector have is not counted where they are read)
pub record Codes (bytes : List ℕ) (codes : ℕ) (m : Mapping) (n : ℕ) : Type 0 where
  pub words : 8 ≤ codes
  pub whole : codes + n * m.length ≤ length bytes

-- ---- the codes of a pack, in mapped form, of the length of a mapping, in the same way
pub record Mapped (bytes : List ℕ) (vector codes : ℕ) (c : ParseControl) (m : Mapping) (slots : ℕ) : Type 0 where
  pub held : SlotsHeld bytes vector codes c slots
  pub vector-there : c.cs ≡ true → vector + (slots + 7) / 8 ≤ length bytes
  pub cf : c.cf ≡ true
  pub long : m.length ≡ c.clen
  pub words : 8 ≤ codes

-- 1 for a slot that is present, and 0 for one that is absent
abbrev pub present_as1 : List ℕ → ℕ → ParseControl → ℕ → ℕ
present_as1 bytes vector c k = pick (present_in bytes vector c k) 1 0
