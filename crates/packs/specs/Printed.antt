-- Document 02, K7: what the program `set` prints for which input, all of it. It is written pack by pack.
use Rattle.std.specs.Prelude.{ℕ, zero, suc, ◌≡◌, Bool, List, [], ◌∷◌, ◌++◌, ltb, length, None, Some, Option, Ok, Err, Result}
use Rattle.answers.specs.Table.{pick}
use Rattle.answers.specs.declared.Refusal.{Refusal}
use Rattle.reader.specs.Rules.{read_answer}
use Rattle.sets.specs.declared.pack.PackPlace.{PackPlace}
use Rattle.sets.specs.declared.set.SetCounts.{SetCounts}
use Rattle.sets.specs.Items.{items_of}
use Rattle.sets.specs.Packs.{tags_of, place, next_pack}
use Rattle.sets.specs.Rules.{set_answer, left_tags}
use Rattle.sets.specs.Handed.{taken_packs}
use Rattle.text.specs.Text.{newline}
use Rattle.report.specs.Lines.{too_big_line}
use Rattle.packs.specs.Lines.{set_text, bytes_of, pack_text}

-- the most that is read: so many bytes, whose tags are so many at most, and packs of so many rows, with so many slots
abbrev pub max_bytes : ℕ
max_bytes = 600000

abbrev pub max_tags : ℕ
max_tags = 300000

abbrev pub max_rows : ℕ
max_rows = 256

abbrev pub max_slots : ℕ
max_slots = 32640

abbrev pub is_too_big : List ℕ → Bool
is_too_big bytes = ltb max_bytes (length bytes)

-- ---- the first line, by a tag list of so many entries
abbrev pub first_line : List ℕ → ℕ → List ℕ
first_line set room = pick (is_too_big set) too_big_line (set_text (set_answer set room) ++ newline)

-- the packs that follow
abbrev pub printed_packs : List ℕ → ℕ → List PackPlace
printed_packs set room = pick (is_too_big set) [] (taken_packs set room)

abbrev pub pack_count : Result SetCounts Refusal → ℕ
pack_count (Ok c) = c.packs
pack_count (Err r) = 0

-- the tag list as it is left
abbrev pub tags_left : List ℕ → List ℕ → List ℕ
tags_left set tags = pick (is_too_big set) tags (left_tags (set_answer set (length tags)) set tags)

-- ---- the packs' own texts, where the reader is lent rooms for so many
abbrev pub text_of : List ℕ → List ℕ → PackPlace → List ℕ
text_of set tags p = pack_text set tags p (read_answer (bytes_of set p) max_rows max_slots max_slots)

abbrev pub texts_of : List ℕ → List ℕ → List PackPlace → List ℕ
texts_of set tags [] = []
texts_of set tags (p ∷ ps) = text_of set tags p ++ texts_of set tags ps

-- ---- all of it
unfoldable pub printed : List ℕ → List ℕ
printed set = first_line set max_tags ++ texts_of set (tags_of (items_of set)) (printed_packs set max_tags)

-- ---- what a loop of so many turns writes, from one pack to the next
abbrev pub behind_text : List ℕ → List ℕ → Option PackPlace → (PackPlace → List ℕ) → List ℕ
behind_text set tags None rest = []
behind_text set tags (Some p) rest = text_of set tags p ++ rest p

abbrev pub loop_text : ℕ → List ℕ → List ℕ → PackPlace → List ℕ
loop_text zero set tags p = []
loop_text (suc left) set tags p = behind_text set tags (next_pack set p) (λ q. loop_text left set tags q)

-- before the first pack
abbrev pub none : PackPlace
none = place 0 0 0 0

-- what the program writes is all of it, whatever its tag list held
abbrev pub LoopPrints : Type 0
LoopPrints =
    (set tags : List ℕ) → length tags ≡ max_tags
    → first_line set max_tags ++ loop_text (length (printed_packs set max_tags)) set (tags_left set tags) none ≡ printed set

-- the room for the text of a pack
abbrev pub room : ℕ
room = 1000000
