-- What the passes over the slots may count on, and what they leave.
use Rattle.std.specs.Prelude.{ℕ, zero, suc, ◌+◌, ◌-◌, ◌*◌, ◌≤◌, ◌≡◌, Bool, true, not, List, [], ◌++◌, length, get_or, drop}
use Rattle.std.proofs.lemmas.List.Edits.{sets}
use Rattle.answers.specs.Table.{pick}
use Rattle.answers.specs.Lent.{tab, joined}
use Rattle.layout.specs.Size.{max_slots}
use Rattle.plan.specs.Places.{vector_length}
use Rattle.plan.specs.Rules.{Supported, InRange}
use Rattle.plan.specs.Zero.{is_zero}
use Rattle.slots.specs.Slots.{coded, sent, vector_byte, code_bytes, element3, element5}

-- ---- the codes of some slots
-- a slot of a sparse pack
abbrev pub sent_bytes : ℕ → ℕ → List ℕ
sent_bytes c L = pick (not (is_zero c)) (coded L c) []

module _ (sparse : Bool) (cs : List ℕ) (L : ℕ) where
  -- n slots from slot `from` on
  abbrev pub codes_of : ℕ → ℕ → List ℕ
  codes_of from n = joined n (λ j. code_bytes sparse cs L (from + j))

  -- by words of eight bytes: what the last of them that is sent leaves behind its code, for the next to be written over
  abbrev pub spill : ℕ → ℕ → List ℕ
  spill from zero = []
  spill from (suc n) = pick (sent sparse cs (from + n)) (drop L (coded 8 (get_or cs (from + n) 0))) (spill from n)

  -- the codes with it
  abbrev pub words_of : ℕ → ℕ → List ℕ
  words_of from n = codes_of from n ++ spill from n

-- ---- a sparse pack from byte b of its Bit Vector on: the bytes, and the codes of their slots
module _ (cs : List ℕ) where
  abbrev pub vector_size : ℕ
  vector_size = vector_length true (length cs)

  abbrev pub vector_from : ℕ → List ℕ
  vector_from b = tab (vector_size - b) (λ i. vector_byte true cs (b + i))

  abbrev pub codes_from : ℕ → ℕ → List ℕ
  codes_from L b = codes_of true cs L (8 * b) (8 * (vector_size - b))

-- ---- what is counted on
-- every correlation has a code of L bytes
pub record Codable (cs : List ℕ) (L : ℕ) : Type 0 where
  pub clen : Supported L
  pub values : InRange cs

-- elements 3 and 5 can be written at these places: the codes stand behind the vector, and end with the pack in the room
pub record SlotsFit (sparse : Bool) (cs : List ℕ) (L vector codes end room : ℕ) : Type 0 where
  pub codable : Codable cs L
  pub slots : length cs ≤ max_slots
  pub behind : vector + length (element3 sparse cs) ≤ codes
  pub ends : codes + length (element5 sparse cs L) ≡ end
  pub within : end ≤ room

-- what is left of them can, where so many bytes of the vector are written and the next code goes to `next`
pub record RestFits (cs : List ℕ) (L vector bytes next room : ℕ) : Type 0 where
  pub codable : Codable cs L
  pub slots : length cs ≤ max_slots
  pub begun : bytes ≤ vector_size cs
  pub behind : vector + vector_size cs ≤ next
  pub within : next + length (codes_from cs L bytes) ≤ room

-- ---- what the words leave
-- so many bytes of the vector, with the codes of their slots and what the last word leaves, in place of l₀
pub record Begun (cs : List ℕ) (L vector codes end bytes next : ℕ) (l₀ l : List ℕ) : Type 0 where
  pub begun : bytes ≤ vector_size cs
  pub on : next ≡ codes + length (codes_of true cs L 0 (8 * bytes))
  pub within : next + length (spill true cs L 0 (8 * bytes)) ≤ end
  pub is : l ≡ sets (sets l₀ vector (tab bytes (vector_byte true cs))) codes (words_of true cs L 0 (8 * bytes))
