-- Element 3 as it is read: the bits that were written, and the ones before a slot.
-- Assumes nothing.
use mathlib.Core.Path.{◌≡◌, refl}
use mathlib.Core.Bool.{Bool, true, false}
use mathlib.Core.List.{List, [], ◌∷◌, ◌++◌}
use Prim.Native.Nat.{ℕ, zero, suc, ◌+◌, ◌-◌, ◌*◌, ◌/◌, ◌%◌, ◌^◌, ◌≤◌, ◌<◌}
use native.Mathlib.Nat.{add-zero, add-suc, zero-mul, pow-succ', div-div-eq-div-mul}
use native.Mathlib.Omega.{arith}
use lib.Arith.{le-zero, digits_div}
use lib.Dec.{eqb}
use lib.ListN.{length, length-append, get_or-append}
use lib.Seq.{get_or-append-add}
use borrow.Author.Tests.{ne_eqb}
use Rattle.answers.specs.Table.{pick}
use Rattle.answers.specs.Lent.{tab, joined}
use Rattle.answers.proofs.Lent.{length-tab, get_or-tab}
use Rattle.numbers.specs.Digits.{spelt}
use Rattle.numbers.specs.Words.{bytes_of}
use Rattle.numbers.proofs.Digits.{spelt-append}
use Rattle.numbers.proofs.Bytes.{length-bytes}
use Rattle.elements.specs.Elements.{vector_bit, present_in, present_before}
use Rattle.elements.proofs.Vector.{present-more, present-le}
use Rattle.slots.specs.Slots.{sent, vector_byte, element3, code_bytes}
use Rattle.trip.specs.Found.{control_for}

-- digit j of the digits of f, with d behind it
digit-of : (f : ℕ → ℕ) (j d : ℕ) → spelt 2 0 (tab (suc j + d) f) / 2 ^ d % 2 ≡ f j % 2
digit-of f j zero = rw (add-zero, spelt-append 2 0 (tab j f) (f j ∷ [])) (omega arith)
digit-of f j (suc d) =
    let n = suc j + d in
    rw (add-suc, spelt-append 2 0 (tab n f) (f n ∷ []), pow-succ', ← div-div-eq-div-mul, digits_div (spelt 2 0 (tab n f)) {m = 2} {r = f n % 2} (omega arith))
    (digit-of f j d)

-- a bit as it was written
bit-of : (b : Bool) → eqb (pick b 1 0 % 2) 1 ≡ b
bit-of true = refl
bit-of false = refl

-- one slot more, and its code
slot-more : (b : Bool) (p q L y : ℕ) → p * L ≡ q → (p + pick b 1 0) * L ≡ q + length (pick b (bytes_of L y) [])
slot-more true p q L y e = rw length-bytes (omega arith)
slot-more false p q L y e = omega arith

module _ (cs front rest : List ℕ) where
  -- a bit of the vector, behind anything
  bit_found : (k : ℕ) → k < length cs → vector_bit (front ++ (element3 true cs ++ rest)) (length front) k ≡ sent true cs k
  bit_found k h =
      let size = (length cs + 7) / 8 in
      let b : k / 8 < length (element3 true cs) = rw (length-tab size (vector_byte true cs)) (omega arith) in
      let e : suc (k % 8) + (7 - k % 8) ≡ 8 = omega arith in
      let p : 8 * (k / 8) + k % 8 ≡ k = omega arith in
      let f : ℕ → ℕ = λ j. pick (sent true cs (8 * (k / 8) + j)) 1 0 in
      rw (
        get_or-append-add front (element3 true cs ++ rest) (k / 8) 0,
        get_or-append (element3 true cs) rest 0 (k / 8) b,
        get_or-tab size (vector_byte true cs) (k / 8) (omega arith),
        rw e at (digit-of f (k % 8) (7 - k % 8)),
      )
      (rw p (bit-of (sent true cs k)))

  module _ (sparse : Bool) (L : ℕ) (least : 1 ≤ L) where
    abbrev bytes : List ℕ
    bytes = front ++ (element3 sparse cs ++ rest)

    -- a slot is present exactly where it was sent
    pub present-found : (k : ℕ) → k < length cs → present_in bytes (length front) (control_for sparse L) k ≡ sent sparse cs k
    present-found k h = rw (ne_eqb L 0 (omega arith)) (go sparse)
      where
        go : (s : Bool) → pick s (vector_bit (front ++ (element3 s cs ++ rest)) (length front) k) true ≡ sent s cs k
        go true = bit_found k h
        go false = refl

    -- those before it are as many as their codes are long
    pub counted-found : (k : ℕ) → k ≤ length cs
        → present_before bytes (length front) (control_for sparse L) k * L ≡ length (joined k (code_bytes sparse cs L))
    counted-found zero h = rw (le-zero (present-le bytes (length front) (control_for sparse L) zero)) (zero-mul L)
    counted-found (suc k) h =
        rw (present-more bytes (length front) (control_for sparse L) k, present-found k h, length-append)
        (slot-more (sent sparse cs k) _ _ L _ (counted-found k (omega arith)))
