-- Elements 1 and 2 as they are read, whatever follows.
-- Assumes nothing.
use mathlib.Core.Path.{◌≡◌, sym, ◌∙◌}
use mathlib.Core.Bool.{Bool, true, false}
use mathlib.Core.List.{List, ◌∷◌, ◌++◌, append_assoc}
use Prim.Native.Nat.{ℕ, suc, ◌+◌, ◌/◌, ◌%◌, ◌^◌, ◌≤◌, ◌<◌}
use native.Mathlib.Nat.{add-zero}
use native.Mathlib.Numerals.{add-one}
use native.Mathlib.Omega.{arith}
use lib.ListN.{length, get_or, length-append}
use lib.Seq.{get_or-append-add}
use borrow.Author.Tests.{le-leb, le-ltb}
use Rattle.answers.specs.Table.{passes}
use Rattle.numbers.proofs.BerOid.{read-tells, length-oid, round_trip}
use Rattle.layout.specs.Control.{mode2}
use Rattle.layout.specs.Header.{control_at, said_size, body_at, head_rules}
use Rattle.writer.specs.Pack.{element1, control_byte, element2}
use Rattle.trip.specs.Found.{control_for, HeadFound}

-- ---- element 1, whatever follows
module _ (n : ℕ) (small : n < 2 ^ 32) (rest : List ℕ) where
  abbrev bytes : List ℕ
  bytes = element1 n ++ rest

  -- N is read
  size-found : said_size bytes ≡ n
  size-found = let t = read-tells bytes (sym (round_trip n small rest)) in rw (← t.0) (sym t.1)

  -- element 2 stands behind it
  control-at : control_at bytes ≡ length (element1 n)
  control-at = sym (read-tells bytes (sym (round_trip n small rest))).0 ∙ sym (length-oid n small)

  -- its first byte, and one after that
  first_found : get_or bytes (control_at bytes) 0 ≡ get_or rest 0 0
  first_found = rw control-at (rw add-zero at (get_or-append-add (element1 n) rest 0 0))

  second-found : get_or bytes (suc (control_at bytes)) 0 ≡ get_or rest 1 0
  second-found = rw control-at (rw add-one at (get_or-append-add (element1 n) rest 1 0))

  -- rules a) and b) pass
  head-passes : body_at bytes ≤ length bytes → head_rules bytes ≡ passes
  head-passes h = rw (round_trip n small rest, le-ltb (length bytes) (body_at bytes) h)

-- ---- element 2 in Mode 2
-- what its two bytes say
mode2-found : (sparse : Bool) (L : ℕ) → L < 16 → mode2 (control_byte sparse L) 4 ≡ control_for sparse L
mode2-found true L h =
    let form : (176 + L) / 32 ≡ 5 = omega arith in
    let format : (176 + L) / 16 ≡ 11 = omega arith in
    let low : (176 + L) % 16 ≡ L = omega arith in
    rw (form, format, low)
mode2-found false L h =
    let form : (144 + L) / 32 ≡ 4 = omega arith in
    let format : (144 + L) / 16 ≡ 9 = omega arith in
    let low : (144 + L) % 16 ≡ L = omega arith in
    rw (form, format, low)

-- both elements
pub head-found : (n L : ℕ) (sparse : Bool) (rest : List ℕ) → n < 2 ^ 32 → L < 16
    → HeadFound n L sparse (element1 n ++ element2 sparse L ++ rest) (length (element1 n ++ element2 sparse L))
head-found n L sparse rest small few =
    let b = control_byte sparse L in
    let tail = b ∷ 4 ∷ rest in
    let high = le-leb 128 b (omega arith) in
    let body : body_at (element1 n ++ tail) ≡ length (element1 n ++ element2 sparse L) =
    rw (first_found n small tail, high, control-at n small tail, length-append) in
    rw (append_assoc (element1 n) (element2 sparse L) rest)
    (record {
      passed = head-passes n small tail (rw body (simp length-append (omega arith)));
      size = size-found n small tail;
      control = rw (first_found n small tail, second-found n small tail, high) (mode2-found sparse L few);
      body = body;
    })
