-- The elements as they are read: each where it was written.
-- Assumes nothing.
use mathlib.Core.Path.{◌≡◌, refl, sym, ◌∙◌}
use mathlib.Core.Bool.{Bool, true, false}
use mathlib.Core.List.{List, [], ◌++◌, append_assoc, append-nil}
use Prim.Native.Nat.{ℕ, ◌+◌, ◌*◌, ◌/◌, ◌≤◌, ◌<◌}
use native.Mathlib.Omega.{arith}
use lib.ListN.{length, get_or, length-append}
use lib.Seq.{drop-append-add}
use lib.Ieee.{binary32, binary64, of_bits}
use Rattle.answers.specs.Table.{pick}
use Rattle.answers.specs.Lent.{joined}
use Rattle.answers.proofs.Lent.{length-tab}
use Rattle.answers.proofs.Joined.{length-joined, joined-part}
use Rattle.numbers.specs.Conversions.{converted}
use Rattle.numbers.proofs.Bytes.{length-bytes}
use Rattle.imapb.specs.Mapping.{code_of}
use Rattle.layout.specs.Header.{control_of, body_at}
use Rattle.layout.specs.Size.{max_rows}
use Rattle.layout.specs.Triangle.{slots_of}
use Rattle.elements.specs.Elements.{part, present_before, head_of, deviations_at, codes_at}
use Rattle.slots.specs.Slots.{element3, element5, vector_byte, code_bytes}
use Rattle.writer.specs.Pack.{element1, element2, element4, deviation_bytes, form_bytes}
use Rattle.trip.specs.Found.{HeadFound, BodyFound, Found, behind}
use Rattle.trip.proofs.Vector.{present-found, counted-found}
use Rattle.trip.proofs.Head.{head-found}

-- one of several lists that stand between others
standing : (f : ℕ → List ℕ) (front rest : List ℕ) (n k at size : ℕ) → k < n → at ≡ length (joined k f) → size ≡ length (f k)
    → part (front ++ joined n f ++ rest) (length front + at) size ≡ f k
standing f front rest n k at size h a s =
    rw (a, s, append_assoc front (joined n f) rest, drop-append-add front (joined n f ++ rest) (length (joined k f))) (joined-part f n k rest h)

-- how long the vector is, and a deviation
vector-length : (sparse : Bool) (cs : List ℕ) → length (element3 sparse cs) ≡ pick sparse ((length cs + 7) / 8) 0
vector-length true cs = length-tab ((length cs + 7) / 8) (vector_byte true cs)
vector-length false cs = refl

four : (ds : List ℕ) (i : ℕ) → length (deviation_bytes ds i) ≡ 4
four ds i = length-bytes 4 (converted binary64 binary32 (get_or ds i 0))

module _ (ds cs : List ℕ) (L : ℕ) (sparse : Bool) where
  -- brackets to the right
  behind-is : (front : List ℕ) → behind ds cs L sparse front ≡ front ++ (element3 sparse cs ++ (element4 ds ++ element5 sparse cs L))
  behind-is front =
      append_assoc (front ++ element3 sparse cs) (element4 ds) (element5 sparse cs L)
      ∙ append_assoc front (element3 sparse cs) (element4 ds ++ element5 sparse cs L)

  module _ (count : length cs ≡ slots_of (length ds)) (least : 1 ≤ L) (front : List ℕ)
      (found : HeadFound (length ds) L sparse (behind ds cs L sparse front) (length front)) where
    abbrev bytes : List ℕ
    bytes = behind ds cs L sparse front

    abbrev rest : List ℕ
    rest = element4 ds ++ element5 sparse cs L

    -- where elements 4 and 5 start
    deviations-at : deviations_at (head_of bytes) ≡ length (front ++ element3 sparse cs)
    deviations-at = rw (found.control, found.size, found.body, ← count, length-append, vector-length sparse cs)

    codes_at_is : codes_at (head_of bytes) ≡ length (front ++ element3 sparse cs ++ element4 ds)
    codes_at_is =
        rw (deviations-at, found.control, found.size, length-append (front ++ element3 sparse cs) (element4 ds), length-joined (deviation_bytes ds) 4 (four ds) (length ds))

    -- the codes before a slot
    counted : (k : ℕ) → k ≤ length cs
        → present_before bytes (body_at bytes) (control_of bytes) k * (control_of bytes).clen ≡ length (joined k (code_bytes sparse cs L))
    counted k h = rw (found.control, found.body, behind-is front) (counted-found cs front rest sparse L least k h)

    -- elements 3 to 5, wherever the first two say that they start
    pub body-found : BodyFound ds cs L sparse bytes
    body-found =
        record {
          present = λ k h. rw (found.control, found.body, behind-is front) (present-found cs front rest sparse L least k h);
          counted = counted;
          deviations =
              λ i h.
              rw (deviations-at, found.control)
              (standing (deviation_bytes ds) (front ++ element3 sparse cs) (element5 sparse cs L) (length ds) i (i * 4) 4 h
              (sym (length-joined (deviation_bytes ds) 4 (four ds) i)) (sym (four ds i)));
          codes =
              λ k h s.
              rw (codes_at_is, counted k (omega arith), found.control)
              (rw (append-nil, s) at
              (standing (code_bytes sparse cs L) (front ++ element3 sparse cs ++ element4 ds) [] (length cs) k
              (length (joined k (code_bytes sparse cs L))) L h refl (rw s (sym (length-bytes L (code_of L (of_bits binary64 (get_or cs k 0))))))));
          whole =
              rw (codes_at_is, found.size, ← count, counted (length cs) (omega arith))
              (sym (length-append (front ++ element3 sparse cs ++ element4 ds) (element5 sparse cs L)));
        }

-- a pack, in either form
pub found : (ds cs : List ℕ) (L : ℕ) (sparse : Bool) → length ds ≤ max_rows → length cs ≡ slots_of (length ds) → 1 ≤ L → L ≤ 8 → Found ds cs L sparse
unfolding form_bytes
found ds cs L sparse rows count least most =
    let front = element1 (length ds) ++ element2 sparse L in
    let rest = element3 sparse cs ++ (element4 ds ++ element5 sparse cs L) in
    let head : HeadFound (length ds) L sparse (behind ds cs L sparse front) (length front) =
    rw (behind-is ds cs L sparse front) (head-found (length ds) L sparse rest (omega arith) (omega arith)) in
    record { head = head; body = body-found ds cs L sparse count least front head }
