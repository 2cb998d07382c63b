-- The packs of a set and the tags that they refine: the positional capture of st0601/decode.rs.
use Rattle.std.specs.Prelude.{ℕ, zero, suc, ◌+◌, ◌-◌, List, [], ◌∷◌, ◌++◌, eqb, leb, length, None, Some, Option}
use Rattle.answers.specs.Table.{pick}
use Rattle.layout.specs.Size.{peeked}
use Rattle.sets.specs.declared.item.Item.{Item}
use Rattle.sets.specs.declared.pack.PackPlace.{PackPlace}
use Rattle.sets.specs.Tags.{pack_tag, is_pushed}
use Rattle.sets.specs.Parts.{part_of}
use Rattle.sets.specs.Items.{Placed, items_from}

-- ---- the tags
-- the tag of an item that is pushed
abbrev pub pushed : Option Item → List ℕ
pushed None = []
pushed (Some i) = pick (is_pushed i.tag) (i.tag ∷ []) []

abbrev pub tags_of : List Placed → List ℕ
tags_of [] = []
tags_of (p ∷ ps) = pushed p.item ++ tags_of ps

-- ---- the packs
abbrev pub place : ℕ → ℕ → ℕ → ℕ → PackPlace
place start end from to = record { start = start; end = end; from = from; to = to }

-- it refines the last N of the tags seen before it, or all of them when fewer came
abbrev pub sized_pack : ℕ → ℕ → ℕ → Option ℕ → Option PackPlace
sized_pack seen start end (Some n) = Some (place start end (seen - n) seen)
sized_pack seen start end None = None

-- a value of tag 102 that peek passes
abbrev pub pack_in : List ℕ → ℕ → ℕ → ℕ → ℕ → Option PackPlace
pack_in set seen tag start end =
    pick (eqb tag pack_tag) (sized_pack seen start end (peeked (part_of start end set))) None

abbrev pub pack_of : List ℕ → ℕ → Option Item → Option PackPlace
pack_of set seen None = None
pack_of set seen (Some i) = pack_in set seen i.tag i.start i.end

-- one, where there is one, before others
abbrev pub before : Option PackPlace → List PackPlace → List PackPlace
before None ps = ps
before (Some p) ps = p ∷ ps

-- those of items, with so many tags seen before them
abbrev pub packs_of : List ℕ → ℕ → List Placed → List PackPlace
packs_of set seen [] = []
packs_of set seen (p ∷ ps) =
    before (pack_of set seen p.item) (packs_of set (seen + length (pushed p.item)) ps)

-- ---- one of them
abbrev pub nth : ℕ → List PackPlace → Option PackPlace
nth k [] = None
nth zero (p ∷ ps) = Some p
nth (suc k) (p ∷ ps) = nth k ps

-- the first behind another, by its end in the set and by its tags' end, which lies no further
abbrev pub next_pack : List ℕ → PackPlace → Option PackPlace
next_pack set p = pick (leb p.to p.end) (nth 0 (packs_of set p.to (items_from set p.end))) None
