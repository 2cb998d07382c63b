-- Document 02, K7: what a set is refused by, and what is answered of one that is not.
use Rattle.std.specs.Prelude.{ℕ, suc, ◌+◌, ◌&&◌, List, [], ◌∷◌, eqb, leb, length, None, Some, Option, Ok, Err, Result}
use Rattle.answers.specs.Table.{Answer, answer, short, wholes, pick, passes, next}
use Rattle.answers.specs.Listed.{listed}
use Rattle.answers.specs.declared.Refusal.{Refusal}
use Rattle.answers.specs.Lent.{leaves}
use Rattle.layout.specs.Size.{peeked}
use Rattle.sets.specs.declared.item.Item.{Item}
use Rattle.sets.specs.declared.set.SetCounts.{SetCounts}
use Rattle.sets.specs.Tags.{pack_tag, is_pushed}
use Rattle.sets.specs.Parts.{part_of}
use Rattle.sets.specs.Items.{Placed, items_of}
use Rattle.sets.specs.Packs.{pushed, tags_of, packs_of}

-- 1 with 0 and 0 for a pack that peek doesn't pass
abbrev pub peek_rule : Option ℕ → Answer
peek_rule (Some n) = passes
peek_rule None = short 0 0

abbrev pub pack_rule : List ℕ → ℕ → ℕ → ℕ → Answer
pack_rule set tag start end = pick (eqb tag pack_tag) (peek_rule (peeked (part_of start end set))) passes

-- 5 with the list's length plus 1 and its length, where it is full and the tag would be pushed
abbrev pub room_rule : ℕ → ℕ → ℕ → Answer
room_rule room seen tag = pick (leb room seen && is_pushed tag) (answer 5 (wholes (suc room ∷ room ∷ []))) passes

-- within an item: 10 with its offset where it can't be read, then 1, then 5
abbrev pub item_rules : List ℕ → ℕ → ℕ → ℕ → Option Item → Answer
item_rules set room seen at None = answer 10 (wholes (at ∷ []))
item_rules set room seen at (Some i) = next (pack_rule set i.tag i.start i.end) (room_rule room seen i.tag)

-- the first faulty item decides
abbrev pub set_rules : List ℕ → ℕ → ℕ → List Placed → Answer
set_rules set room seen [] = passes
set_rules set room seen (p ∷ ps) =
    next (item_rules set room seen p.at p.item) (set_rules set room (seen + length (pushed p.item)) ps)

-- done carries how many packs there are, and how many tags
abbrev pub counts : ℕ → ℕ → Answer
counts packs tags = answer 0 (wholes (packs ∷ tags ∷ []))

-- of a set's value and a tag list of so many entries
abbrev pub set_answer : List ℕ → ℕ → Answer
set_answer set room =
    next (set_rules set room 0 (items_of set))
    (counts (length (packs_of set 0 (items_of set))) (length (tags_of (items_of set))))

abbrev pub set_listed : Result SetCounts Refusal → Answer
set_listed (Ok c) = counts c.packs c.tags
set_listed (Err r) = listed r

-- what is left of the list, by the answer: the set's tags over its front, or all as it was
abbrev pub left_tags : Answer → List ℕ → List ℕ → List ℕ
left_tags a set lent = leaves a (tags_of (items_of set)) lent
