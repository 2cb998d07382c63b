-- The items of a set's value, one behind the other, each a tag, a length and as many bytes of value.
use Rattle.std.specs.Prelude.{ℕ, zero, suc, ◌+◌, ◌-◌, List, [], ◌∷◌, leb, ltb, length, drop, Option, Some, None}
use Rattle.answers.specs.Table.{pick}
use Rattle.numbers.specs.declared.ber_oid.BerOid.{BerOid}
use Rattle.numbers.specs.declared.ber.BerLength.{BerLength}
use Rattle.numbers.specs.BerOid.{oid_read_strict}
use Rattle.numbers.specs.Ber.{ber_read_strict}
use Rattle.sets.specs.declared.item.Item.{Item}

-- ---- one item
abbrev pub read : ℕ → ℕ → ℕ → Item
read tag start end = record { tag = tag; start = start; end = end }

-- behind the tag: the value ends within the set
abbrev pub valued : List ℕ → ℕ → ℕ → Option BerLength → Option Item
valued set tag at None = None
valued set tag at (Some l) =
    pick (ltb (length set) (at + l.taken + l.value)) None (Some (read tag (at + l.taken) (at + l.taken + l.value)))

-- behind a tag that was read or not: the length
abbrev pub tagged : List ℕ → ℕ → Option BerOid → Option Item
tagged set at None = None
tagged set at (Some tag) = valued set tag.value (at + tag.taken) (ber_read_strict (drop (at + tag.taken) set))

-- the item that starts at a place: tag and length by the strict reading
unfoldable pub item_at : List ℕ → ℕ → Option Item
item_at set at = tagged set at (oid_read_strict (drop at set))

-- ---- all of them, each with the place where it starts
pub record Placed : Type 0 where
  pub at : ℕ
  pub item : Option Item

abbrev pub placed : ℕ → Option Item → Placed
placed at item = record { at = at; item = item }

-- what comes behind an item: nothing behind a faulty one
abbrev pub behind : Option Item → (ℕ → List Placed) → List Placed
behind None from = []
behind (Some i) from = from i.end

-- from a place on, up to the set's end or the first that is faulty, and `most` at most
unfoldable pub items_up_to : ℕ → List ℕ → ℕ → List Placed
items_up_to zero set at = []
items_up_to (suc most) set at =
    pick (leb (length set) at) []
    (placed at (item_at set at) ∷ behind (item_at set at) (λ end. items_up_to most set end))

-- each takes a byte at least, so that there are no more than bytes
abbrev pub items_from : List ℕ → ℕ → List Placed
items_from set at = items_up_to (length set - at) set at

abbrev pub items_of : List ℕ → List Placed
items_of set = items_from set 0
