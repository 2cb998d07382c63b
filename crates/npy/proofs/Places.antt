-- Where the entries of a file stand: one behind the other along a row, a row apart down a column, all within the file.
-- Assumes nothing.
use mathlib.Core.Path.{◌≡◌}
use Prim.Native.Nat.{ℕ, ◌+◌, ◌*◌, ◌≤◌, ◌<◌}
use native.Mathlib.Nat.{add-mul, one-mul, mul-le-mul}
use native.Mathlib.Omega.{arith}
use Rattle.npy_export.specs.File.{file_length}
use Rattle.npy.specs.Matrix.{place_of}

module _ (n : ℕ) where
  pub place-along : (i j : ℕ) → place_of n i (j + 1) ≡ place_of n i j + 8
  place-along i j = omega arith

  pub place_down : (i j : ℕ) → place_of n (i + 1) j ≡ place_of n i j + 8 * n
  place_down i j = omega (arith, add-mul i 1 n, one-mul n)

  pub place-fits : (i j : ℕ) → i < n → j < n → place_of n i j + 8 ≤ file_length n
  place-fits i j h k = omega (arith, add-mul i 1 n, one-mul n, mul-le-mul {n₁ = i + 1} {m₁ = n} {n₂ = n} {m₂ = n} (omega arith) (omega arith))
