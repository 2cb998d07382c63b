-- Pack k of a set and of the tag list that it was read into.
use Rattle.std.specs.Prelude.{ℕ, List, [], eqb, length, None, Some, Option}
use Rattle.answers.specs.Table.{pick}
use Rattle.sets.specs.declared.pack.PackPlace.{PackPlace}
use Rattle.sets.specs.Parts.{part_of}
use Rattle.sets.specs.Items.{items_of}
use Rattle.sets.specs.Packs.{packs_of, nth}
use Rattle.sets.specs.Rules.{set_answer}

-- the packs of a set that a list of so many entries takes; of another, none
abbrev pub taken_packs : List ℕ → ℕ → List PackPlace
taken_packs set room = pick (eqb (set_answer set room).number 0) (packs_of set 0 (items_of set)) []

abbrev pub pack_at : List ℕ → ℕ → ℕ → Option PackPlace
pack_at set room k = nth k (taken_packs set room)

-- the parts by a pack's places, and nothing where there is none
abbrev pub bytes_by : List ℕ → Option PackPlace → List ℕ
bytes_by set None = []
bytes_by set (Some p) = part_of p.start p.end set

abbrev pub tags_by : List ℕ → Option PackPlace → List ℕ
tags_by tags None = []
tags_by tags (Some p) = part_of p.from p.to tags

abbrev pub bytes_at : List ℕ → ℕ → ℕ → List ℕ
bytes_at set room k = bytes_by set (pack_at set room k)

abbrev pub tags_at : List ℕ → List ℕ → ℕ → List ℕ
tags_at set tags k = tags_by tags (pack_at set (length tags) k)
