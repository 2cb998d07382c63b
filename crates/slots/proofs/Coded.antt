-- A correlation from -1 to 1 has a code.
-- Assumes nothing.
use mathlib.Core.Path.{◌≡◌, refl}
use mathlib.Core.Bool.{Bool, true, false}
use Prim.Native.Nat.{ℕ}
use native.Mathlib.Omega.{arith}
use lib.Dec.{T}
use lib.Ieee.{binary64, of_bits}
use Rattle.std.specs.Prelude.{None, Some, Option}
use Rattle.imapb.specs.Mapping.{code_of, in_range}
use Rattle.imapb.specs.Tables.{imapb_code}
use Rattle.imapb.proofs.Length.{is-supported}
use Rattle.plan.specs.Rules.{Supported}

holds : (b : Bool) → T b → b ≡ true
holds true t = refl
holds false t = absurd t

-- a number from -1 to 1 has one
has_code : (L v : ℕ) → Supported L → T (in_range (of_bits binary64 v)) → imapb_code L v ≡ Some (code_of L (of_bits binary64 v))
has_code L v s t = rw (is-supported L s.0 s.1, holds (in_range (of_bits binary64 v)) t)

module _ (L v : ℕ) (s : Supported L) (t : T (in_range (of_bits binary64 v))) {r : Option ℕ} (e : r ≡ imapb_code L v) where
  pub code-value : {y : ℕ} → r ≡ Some y → y ≡ code_of L (of_bits binary64 v)
  code-value n = let h = has_code L v s t in cc

  pub code-never : r ≡ None → ⊥
  code-never n = let h = has_code L v s t in let z : ◌≡◌ {A = ℕ} 0 1 = cc in omega arith
