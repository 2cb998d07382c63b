-- How much of a slice is there.
use Rattle.std.specs.Prelude.{ℕ, List, ◌≡◌, ◌≤◌, length, take}

-- so many entries can be taken
abbrev pub IsPrefixLen : {T : Type 0} → ℕ → List T → Type 0
IsPrefixLen n items = (n ≤ length items) × (n ≡ length (take n items))
