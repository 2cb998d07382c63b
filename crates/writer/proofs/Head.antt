-- Elements 1 and 2: what the BER-OID writer leaves where there is room, and the two bytes behind it.
-- Assumes nothing.
use mathlib.Core.Path.{◌≡◌, refl, sym, ap, ◌∙◌}
use mathlib.Core.List.{List, [], ◌∷◌, ◌++◌}
use Prim.Native.Nat.{ℕ, ◌+◌, ◌^◌, ◌≤◌, ◌<◌}
use native.Mathlib.Nat.{zero-add}
use native.Mathlib.Numerals.{add-one}
use native.Mathlib.Omega.{arith}
use borrow.Author.Tests.{le-ltb}
use lib.ListN.{length, set}
use lib.Seq.{sets, length-sets}
use Rattle.std.specs.Prelude.{Err, Ok, Result}
use Rattle.answers.specs.Table.{answer, wholes}
use Rattle.answers.specs.Listed.{written}
use Rattle.answers.specs.Lent.{leaves}
use Rattle.answers.specs.declared.Refusal.{Refusal}
use Rattle.answers.proofs.OneToOne.{written_one, done-not-refused}
use Rattle.answers.proofs.Stored.{sets_over, sets_more}
use Rattle.numbers.specs.BerOid.{oid_length, oid_bytes, oid_written}
use Rattle.numbers.proofs.BerOid.{length-oid}

-- N in `out`, which has room for it
module _ (n : ℕ) (small : n < 2 ^ 32) (out : List ℕ) (room : oid_length n + 2 ≤ length out) (r : Result ℕ Refusal) (l : List ℕ)
    (e : (written r ≡ oid_written n (length out)) × (l ≡ leaves (written r) (oid_bytes n) out)) where
  is-done : written r ≡ answer 0 (wholes (oid_length n ∷ []))
  is-done = e.0 ∙ rw (le-ltb (length out) (oid_length n) (omega arith))

  pub head_never : {f : Refusal} → r ≡ Err f → ⊥
  head_never {f} h = done-not-refused (answer 0 (wholes (oid_length n ∷ []))) f refl (sym is-done ∙ ap written h)

  pub head-size : {k : ℕ} → r ≡ Ok k → k ≡ oid_length n
  head-size {k} h = let q : Ok k ≡ Ok (oid_length n) = written_one (Ok k) (Ok (oid_length n)) (sym (ap written h) ∙ is-done) in cc

  stored : l ≡ sets out 0 (oid_bytes n)
  stored = e.1 ∙ rw is-done (sym (sets_over (oid_bytes n) out (omega (arith, length-oid n small))))

  pub head-long : length l ≡ length out
  head-long = rw stored (length-sets out 0 (oid_bytes n))

  -- the two bytes of the control
  pub head-stored : {k : ℕ} (b c : ℕ) → r ≡ Ok k → set (set l k b) (k + 1) c ≡ sets out 0 (oid_bytes n ++ (b ∷ c ∷ []))
  head-stored {k} b c h =
      rw (head-size h, stored, sets_more out 0 (oid_bytes n) (b ∷ c ∷ []), zero-add, length-oid n small, add-one)
