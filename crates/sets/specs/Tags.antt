-- Which tags are packs, and which are pushed on the list of the tags seen.
use Rattle.std.specs.Prelude.{ℕ, Bool, not, ◌&&◌, eqb}
use Rattle.answers.specs.Table.{pick}

-- an SDCC-FLP pack, which is not one of the sources that a later one could refine
abbrev pub pack_tag : ℕ
pack_tag = 102

-- the checksum, which is handled apart
abbrev pub checksum_tag : ℕ
checksum_tag = 1

-- every other tag is, known or not, and each time it comes
abbrev pub is_pushed : ℕ → Bool
is_pushed tag = not (eqb tag pack_tag) && not (eqb tag checksum_tag)

-- how many tags an item of that tag pushes, and how many packs it is
abbrev pub tag_count : ℕ → ℕ
tag_count tag = pick (is_pushed tag) 1 0

abbrev pub pack_count : ℕ → ℕ
pack_count tag = pick (eqb tag pack_tag) 1 0
