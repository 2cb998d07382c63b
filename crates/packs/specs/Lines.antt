-- What the program `set` prints of a set, and of each of its packs.
use Rattle.std.specs.Prelude.{ℕ, List, [], ◌∷◌, ◌++◌, eqb}
use Rattle.answers.specs.Table.{Answer, pick, plains}
use Rattle.sets.specs.declared.pack.PackPlace.{PackPlace}
use Rattle.sets.specs.Parts.{part_of}
use Rattle.text.specs.Text.{ascii, newline}
use Rattle.lines.specs.Lines.{numbers, refused_text}
use Rattle.report.specs.Answer.{answer_lines}

-- ---- a set: how many packs it has, and how many tags; or the refusal
abbrev pub set_text : Answer → List ℕ
set_text a = pick (eqb a.number 0) (ascii "set" ++ numbers (plains a.carries)) (refused_text a)

-- ---- a pack
-- where it stands in the set
abbrev pub place_line : PackPlace → List ℕ
place_line p = ascii "pack" ++ numbers (p.start ∷ p.end ∷ []) ++ newline

-- the tags that it refines, in decimal, or `-` where there are none
abbrev pub listed_tags : List ℕ → List ℕ
listed_tags [] = ascii " -"
listed_tags (t ∷ ts) = numbers (t ∷ ts)

abbrev pub tags_text : List ℕ → List ℕ
tags_text ts = ascii "tags" ++ listed_tags ts

-- and then what the reader answers of it
abbrev pub bytes_of : List ℕ → PackPlace → List ℕ
bytes_of set p = part_of p.start p.end set

abbrev pub pack_text : List ℕ → List ℕ → PackPlace → Answer → List ℕ
pack_text set tags p a =
    place_line p ++ tags_text (part_of p.from p.to tags) ++ newline ++ answer_lines (bytes_of set p) a
