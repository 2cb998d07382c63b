-- How long each element is, and so the pack: the plan's places are theirs. No pack is longer than its full form.
-- Assumes nothing.
use mathlib.Core.Path.{◌≡◌, refl, ap, ◌∙◌}
use mathlib.Core.Bool.{Bool, true, false}
use mathlib.Core.List.{List, ◌++◌}
use Prim.Native.Nat.{ℕ, ◌+◌, ◌-◌, ◌*◌, ◌^◌, ◌≤◌, ◌<◌}
use native.Mathlib.Nat.{mul_comm, add-mul, mul_assoc}
use native.Mathlib.Omega.{arith}
use borrow.Author.Tests.{ltb-true}
use lib.ListN.{length, length-append}
use Rattle.answers.proofs.Joined.{length-joined}
use Rattle.numbers.specs.BerOid.{oid_length}
use Rattle.numbers.proofs.BerOid.{length-oid}
use Rattle.numbers.proofs.Bytes.{length-bytes}
use Rattle.plan.specs.Places.{sparse_rule, vector_length, sent_count, end_at}
use Rattle.plan.specs.Zero.{zeros_before}
use Rattle.plan.proofs.Checked.{zeros-le}
use Rattle.slots.proofs.Lengths.{length-3, length-5}
use Rattle.writer.specs.Pack.{element1, element2, element4, deviation_bytes, form_bytes, is_sparse, pack_bytes}

pub length-1-2 : (n : ℕ) → n < 2 ^ 32 → (sparse : Bool) (L : ℕ) → length (element1 n ++ element2 sparse L) ≡ oid_length n + 2
length-1-2 n small sparse L = rw (length-append, length-oid n small)

pub length-4 : (ds : List ℕ) → length (element4 ds) ≡ 4 * length ds
length-4 ds = length-joined (deviation_bytes ds) 4 (λ i. length-bytes 4 _) (length ds) ∙ mul_comm (length ds) 4

module _ (ds cs : List ℕ) (L : ℕ) (small : length ds < 2 ^ 32) where
  abbrev Z : ℕ
  Z = zeros_before cs (length cs)

  pub length-form : (sparse : Bool) → length (form_bytes ds cs L sparse) ≡ end_at sparse (length ds) (length cs) Z L
  unfolding form_bytes
  length-form sparse =
      rw (length-append, length-append, length-append, length-1-2 (length ds) small sparse L, length-3 sparse cs, length-4 ds, length-5 cs L sparse) (omega arith)

  -- with 8·Z·Clen > M the vector costs no more than the zeros would
  sparse-le : (sparse : Bool) → sparse_rule (length cs) Z L ≡ sparse
      → vector_length sparse (length cs) + sent_count sparse (length cs) Z * L ≤ length cs * L
  sparse-le false e = omega arith
  sparse-le true e =
      let h : length cs < 8 * Z * L = ltb-true (length cs) (8 * Z * L) e in
      let q : length cs * L ≡ (length cs - Z) * L + Z * L = ap (λ (m : ℕ). m * L) (omega (arith, zeros-le cs (length cs))) ∙ add-mul (length cs - Z) Z L in
      omega (arith, mul_assoc 8 Z L, q)

  -- the pack is never longer than its full form
  pub never-longer : length (pack_bytes ds cs L) ≤ length (form_bytes ds cs L false)
  never-longer =
      rw (length-form (is_sparse ds cs L), length-form false) (omega (arith, sparse-le (is_sparse ds cs L) refl))
