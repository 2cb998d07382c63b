-- A file whose header passes is as long as the header.
-- Assumes nothing.
use mathlib.Core.Path.{◌≡◌, refl}
use mathlib.Core.List.{List, [], ◌∷◌}
use Prim.Native.Nat.{ℕ, suc, ◌≤◌}
use native.Mathlib.Omega.{arith}
use borrow.Author.Tests.{ltb-false}
use lib.Dec.{eqb}
use lib.ListN.{length}
use Rattle.answers.proofs.Next.{unheld}
use Rattle.answers.proofs.Rules.{picked}
use Rattle.npy_header.specs.Header.{header_length, header, size_in, break_of, break_in}
use Rattle.npy_header.specs.Rules.{header_rule}

-- no break lies behind the file's end
break-le : (h file : List ℕ) → break_of h file ≤ length file
break-le [] file = omega arith
break-le (x ∷ h) [] = omega arith
break-le (x ∷ h) (b ∷ file) =
    picked (λ (k : ℕ). k ≤ suc (length file)) (eqb x b) (suc (break_of h file)) 0 (λ _. omega (arith, break-le h file)) (λ _. omega arith)

pub header-held : (file : List ℕ) → (header_rule file).number ≡ 0 → header_length ≤ length file
unfolding break_in
header-held file z = omega (arith, ltb-false (break_in file) header_length (unheld _ _ refl z), break-le (header (size_in file)) file)
