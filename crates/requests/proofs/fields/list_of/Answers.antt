-- `fields::list_of` meets its contract: the list has its part of the words.
use mathlib.Core.Path.{◌≡◌}
use Prim.Native.Nat.{◌≤◌, min}
use native.Mathlib.Omega.{arith}
use lib.ListN.{length}
use Rattle.requests.specs.Fields.{part_of, list_of, words_of}
use Rattle.requests.proofs.Parts.{part-ordered, part-listed}
use Rattle.requests.proofs.fields.list_of.Goals as goal
use Rattle.requests.proofs.fields.list_of.Goals.{After-within-end}

-- where the part starts, and where it ends
start : (c : After-within-end) → let a = c.args in
    c.within-start.result ≡ min (part_of a.letter).start (length a.words.now)
start c = rw c.part_of-part.ensures at c.within-start.ensures.value

end : (c : After-within-end) → let a = c.args in
    c.within-end.result ≡ min (part_of a.letter).end (length a.words.now)
end c = rw c.part_of-part.ensures at c.within-end.ensures.value

ordered : (c : After-within-end) → c.within-start.result ≤ c.within-end.result
ordered c = omega (arith, start c, end c, part-ordered c.args.letter)

pub slice_bounds-list-count : goal.slice_bounds-list-count
slice_bounds-list-count c = ordered (goal.at.slice_bounds-list-count c).After-within-end

pub slice_bounds-list-start : goal.slice_bounds-list-start
slice_bounds-list-start c = ordered (goal.at.slice_bounds-list-start c).After-within-end

pub returns-clause-value : goal.returns-clause-value
unfolding list_of words_of
returns-clause-value c =
    let w = (goal.at.returns-clause-value c).After-within-end in
    let a = c.args in
    let stored = rw w.part_of-part.ensures at c.list.ensures.value in
    let left = rw w.part_of-part.ensures at c.list.ensures.room_after in
    (part-listed (part_of a.letter) (part-ordered a.letter) a.words.now (start w) (end w) a.line.now a.at (stored, left)).0

pub returns-clause-words_after : goal.returns-clause-words_after
unfolding list_of words_of
returns-clause-words_after c =
    let w = (goal.at.returns-clause-words_after c).After-within-end in
    let a = c.args in
    let stored = rw w.part_of-part.ensures at c.list.ensures.value in
    let left = rw w.part_of-part.ensures at c.list.ensures.room_after in
    (part-listed (part_of a.letter) (part-ordered a.letter) a.words.now (start w) (end w) a.line.now a.at (stored, left)).1
