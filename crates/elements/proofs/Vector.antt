-- The Bit Vector: counting its ones byte by byte counts its set bits one by one.
-- Assumes nothing.
use mathlib.Core.Path.{◌≡◌, refl, sym, ap, ◌∙◌}
use mathlib.Core.Bool.{Bool, true, false}
use mathlib.Core.List.{List}
use Prim.Native.Nat.{ℕ, zero, suc, ◌+◌, ◌-◌, ◌*◌, ◌/◌, ◌%◌, ◌^◌, ◌≤◌, ◌<◌}
use native.Mathlib.Nat.{add-zero, add-suc, div-eq_of_lt}
use native.Mathlib.Numerals.{add-one}
use native.Mathlib.Omega.{arith}
use lib.Count.{ones, ones_step}
use lib.Dec.{eqb}
use lib.ListN.{get_or}
use lib.Pow.{shr-shr}
use Rattle.answers.specs.Table.{pick}
use Rattle.layout.specs.Control.{is_set}
use Rattle.layout.specs.declared.control.ParseControl.{ParseControl}
use Rattle.elements.specs.Elements.{vector_bit, ones_before, present_in, present_before}

-- a bit as a number
pub bit_is : (n : ℕ) → pick (is_set n) 1 0 ≡ n % 2
bit_is n = go (n % 2) (omega arith)
  where
    go : (b : ℕ) → b < 2 → pick (eqb b 1) 1 0 ≡ b
    go zero h = refl
    go (suc zero) h = refl
    go (suc (suc b)) h = absurd (omega arith)

no_ones : ones 0 ≡ 0
unfolding ones
no_ones = refl

-- the ones of a byte's top r bits are its first r bits
ones-top : (bytes : List ℕ) (at i r : ℕ) → r ≤ 8 → get_or bytes (at + i) 0 < 256
    → ones_before bytes at (8 * i + r) ≡ ones_before bytes at (8 * i) + ones (get_or bytes (at + i) 0 / 2 ^ (8 - r))
ones-top bytes at i zero h b = rw (add-zero, div-eq_of_lt b, no_ones) (omega arith)
ones-top bytes at i (suc r) h b =
    let byte = get_or bytes (at + i) 0 in
    let k : 8 * i + suc r ≡ suc (8 * i + r) = omega arith in
    let place : (8 * i + r) / 8 ≡ i = omega arith in
    let bit : (8 * i + r) % 8 ≡ r = omega arith in
    let e : 8 - suc r ≡ 7 - r = omega arith in
    let up : byte / 2 ^ (7 - r) / 2 ≡ byte / 2 ^ (8 - r) = shr-shr byte (7 - r) 1 ∙ ap (λ (n : ℕ). byte / 2 ^ n) (omega arith) in
    rw (k, place, bit, bit_is (byte / 2 ^ (7 - r)), ones-top bytes at i r (omega arith) b, e)
    (omega (arith, ones_step (byte / 2 ^ (7 - r)), ap ones up))

-- a byte more, or the first bits of one
pub ones-to : (bytes : List ℕ) (at i r k : ℕ) → k ≡ 8 * i + r → r ≤ 8 → get_or bytes (at + i) 0 < 256
    → ones_before bytes at k ≡ ones_before bytes at (8 * i) + ones (get_or bytes (at + i) 0 / 2 ^ (8 - r))
ones-to bytes at i r k e h b = rw e (ones-top bytes at i r h b)

-- one slot more
pub present-more : (bytes : List ℕ) (at : ℕ) (c : ParseControl) (k : ℕ)
    → present_before bytes at c (suc k) ≡ present_before bytes at c k + pick (present_in bytes at c k) 1 0
present-more bytes at c k = go (eqb c.clen 0) c.cs
  where
    go : (none sparse : Bool) → pick none 0 (pick sparse (ones_before bytes at (suc k)) (suc k))
        ≡ pick none 0 (pick sparse (ones_before bytes at k) k) + pick (pick none false (pick sparse (vector_bit bytes at k) true)) 1 0
    go true sparse = refl
    go false true = refl
    go false false = sym (add-one k)

present-step : (b : Bool) → pick b 1 0 ≤ 1
present-step true = omega arith
present-step false = omega arith

-- no more than the slots are present, and more slots have no fewer
pub present-le : (bytes : List ℕ) (at : ℕ) (c : ParseControl) (k : ℕ) → present_before bytes at c k ≤ k
present-le bytes at c zero = go (eqb c.clen 0) c.cs
  where
    go : (none sparse : Bool) → pick none 0 (pick sparse 0 0) ≤ 0
    go true sparse = omega arith
    go false true = omega arith
    go false false = omega arith
present-le bytes at c (suc k) = rw (present-more bytes at c k) (omega (arith, present-le bytes at c k, present-step (present_in bytes at c k)))

pub ones-grow : (bytes : List ℕ) (at : ℕ) {j k : ℕ} → j ≤ k → ones_before bytes at j ≤ ones_before bytes at k
ones-grow bytes at {j} {k} h = let e : j + (k - j) ≡ k = omega arith in rw e at (go (k - j))
  where
    go : (d : ℕ) → ones_before bytes at j ≤ ones_before bytes at (j + d)
    go zero = rw add-zero (omega arith)
    go (suc d) = rw add-suc (omega (arith, go d))

pub present-grows : (bytes : List ℕ) (at : ℕ) (c : ParseControl) {j k : ℕ} → j ≤ k → present_before bytes at c j ≤ present_before bytes at c k
present-grows bytes at c {j} {k} h = go (eqb c.clen 0) c.cs
  where
    go : (none sparse : Bool) → pick none 0 (pick sparse (ones_before bytes at j) j) ≤ pick none 0 (pick sparse (ones_before bytes at k) k)
    go true sparse = omega arith
    go false true = ones-grow bytes at h
    go false false = h
