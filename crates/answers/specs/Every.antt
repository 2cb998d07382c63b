-- A test of each of 0 to n-1.
use Rattle.std.specs.Prelude.{ℕ, zero, suc, Bool, true, ◌&&◌}

abbrev pub every : ℕ → (ℕ → Bool) → Bool
every zero b = true
every (suc n) b = every n b && b n
