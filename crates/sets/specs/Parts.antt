-- Parts of a list.
use Rattle.std.specs.Prelude.{ℕ, ◌-◌, List, [], ltb, length, take, drop}
use Rattle.answers.specs.Table.{pick}

-- from a place on up to another, and nothing where the list ends before that
abbrev pub part_of : {A : Type 0} → ℕ → ℕ → List A → List A
part_of start end l = pick (ltb (length l) end) [] (take (end - start) (drop start l))
