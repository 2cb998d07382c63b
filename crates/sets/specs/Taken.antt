-- What is promised of a set that is taken: its items join up, and the parts that are handed back are its packs.
use Rattle.std.specs.Prelude.{ℕ, suc, ◌-◌, ◌≤◌, ◌<◌, ◌≡◌, List, [], ◌∷◌, ◌++◌, length, take, drop, None, Some, Option}
use Rattle.answers.specs.Lent.{over}
use Rattle.layout.specs.Header.{said_size}
use Rattle.sets.specs.declared.item.Item.{Item}
use Rattle.sets.specs.declared.pack.PackPlace.{PackPlace}
use Rattle.sets.specs.Tags.{pack_tag}
use Rattle.sets.specs.Items.{read, Placed, placed, items_of}
use Rattle.sets.specs.Packs.{tags_of, packs_of, place, next_pack}
use Rattle.sets.specs.Rules.{set_answer}
use Rattle.sets.specs.Handed.{pack_at, bytes_at, tags_at}

-- ---- the items
-- one that was read, by where its value starts and ends
abbrev pub WasRead : Option Item → (ℕ → ℕ → Type 0) → Type 0
WasRead None holds = ⊥
WasRead (Some i) holds = holds i.start i.end

-- from a place to another: each starts where the one before it ended, and its value lies behind that
abbrev pub JoinUp : ℕ → List Placed → ℕ → Type 0
JoinUp from [] to = from ≡ to
JoinUp from (p ∷ ps) to =
    (p.at ≡ from) × WasRead p.item (λ start end. (from < start) × (start ≤ end) × JoinUp end ps to)

-- ---- pack k, and the tags that it refines
-- the last n, or all of them when there are fewer
abbrev pub last_of : ℕ → List ℕ → List ℕ
last_of n l = drop (length l - n) l

-- of a set, and of a list that was lent and that the call has left with the set's tags
pub record HandedBack (set lent : List ℕ) (k : ℕ) : Type 0 where
  -- an item of tag 102, with k packs ahead of it
  pub ahead : List Placed
  pub rest : List Placed
  pub at : ℕ
  pub start : ℕ
  pub end : ℕ
  pub item : items_of set ≡ ahead ++ (placed at (Some (read pack_tag start end)) ∷ rest)
  pub kth : length (packs_of set 0 ahead) ≡ k
  -- the part of the set is its value, which is never empty
  pub filled : start < end
  pub value : bytes_at set (length lent) k ≡ take (end - start) (drop start set)
  -- the part of the list: the last N of the tags pushed ahead of it
  pub tags : tags_at set (over (tags_of (items_of set)) lent) k
      ≡ last_of (said_size (take (end - start) (drop start set))) (tags_of ahead)

-- ---- a set with a list that takes it
pub record Taken (set lent : List ℕ) : Type 0 where
  pub joined : JoinUp 0 (items_of set) (length set)
  pub room : length (tags_of (items_of set)) ≤ length lent
  -- each of its packs, and no other
  pub packs : (k : ℕ) → k < length (packs_of set 0 (items_of set)) → HandedBack set lent k
  pub none : (k : ℕ) → length (packs_of set 0 (items_of set)) ≤ k
      → (bytes_at set (length lent) k ≡ []) × (tags_at set (over (tags_of (items_of set)) lent) k ≡ [])
  -- a cursor goes from the set's start to its first pack, and from pack to pack
  pub first : next_pack set (place 0 0 0 0) ≡ pack_at set (length lent) 0
  pub onward : (k : ℕ) (p : PackPlace) → pack_at set (length lent) k ≡ Some p
      → next_pack set p ≡ pack_at set (length lent) (suc k)

-- whatever is not taken hands back nothing
pub record NotTaken (set lent : List ℕ) : Type 0 where
  pub bytes : (k : ℕ) → bytes_at set (length lent) k ≡ []
  pub tags : (k : ℕ) → tags_at set lent k ≡ []

abbrev pub Sets : Type 0
Sets = (set lent : List ℕ)
    → ((set_answer set (length lent)).number ≡ 0 → Taken set lent)
    × (((set_answer set (length lent)).number ≡ 0 → ⊥) → NotTaken set lent)
