-- Reading back what was written: every rule passes, and each list is that of its numbers.
-- Assumes nothing.
use mathlib.Core.Path.{◌≡◌, refl, sym}
use mathlib.Core.Bool.{Bool, true, false, ◌&&◌, not, and-false}
use mathlib.Core.List.{List, ◌++◌}
use Prim.Native.Nat.{ℕ, ◌+◌, ◌-◌, ◌*◌, ◌/◌, ◌≤◌, ◌<◌}
use native.Mathlib.Omega.{arith}
use lib.Dec.{eqb}
use lib.ListN.{length}
use borrow.Author.Tests.{le-leb, le-ltb, ne_eqb}
use Rattle.std.specs.Prelude.{None}
use Rattle.answers.specs.Table.{pick, passes}
use Rattle.answers.specs.Lent.{tab}
use Rattle.answers.proofs.Lent.{tab-same}
use Rattle.answers.proofs.Rules.{by_bool}
use Rattle.layout.specs.Header.{said_size}
use Rattle.layout.specs.Size.{max_rows, size_rules, fit_rules}
use Rattle.layout.specs.Triangle.{slots_of}
use Rattle.layout.proofs.Peek.{fit-answers}
use Rattle.elements.specs.Elements.{present_before, head_of, deviation_count}
use Rattle.rules.specs.Rules.{element_rules, room_rules}
use Rattle.rules.proofs.InTurn.{all_held}
use Rattle.slots.specs.Slots.{sent}
use Rattle.writer.specs.Pack.{element1, element2, form_bytes}
use Rattle.trip.specs.Found.{control_for, HeadFound, BodyFound}
use Rattle.trip.specs.Back.{Back}
use Rattle.trip.proofs.Found.{found}
use Rattle.trip.proofs.Values.{values-found}

-- lists of an equal count of equal numbers
tab-is : {m n : ℕ} {f g : ℕ → ℕ} → m ≡ n → ((k : ℕ) → k < n → f k ≡ g k) → tab m f ≡ tab n g
tab-is {n = n} e h = rw e (tab-same n h)

-- ---- rules that pass
-- c) to g)
size-passes : (sparse : Bool) (n R L : ℕ) → n ≤ max_rows → n * 4 ≤ R → (sparse ≡ false → slots_of n * L ≤ R) → (sparse ≡ true → slots_of n ≤ 8 * R)
    → size_rules n R (control_for sparse L) ≡ passes
size-passes true n R L rows d f v = rw (le-ltb max_rows n rows, le-ltb R (n * 4) d, le-ltb (8 * R) (slots_of n) (v refl))
size-passes false n R L rows d f v = rw (le-ltb max_rows n rows, le-ltb R (n * 4) d, le-ltb R (slots_of n * L) (f refl))

-- ---- bytes whose elements are found
module _ (ds cs : List ℕ) (L : ℕ) (sparse : Bool) (rows : length ds ≤ max_rows) (count : length cs ≡ slots_of (length ds)) (least : 1 ≤ L) (most : L ≤ 8)
    (bytes : List ℕ) (at : ℕ) (head : HeadFound (length ds) L sparse bytes at) (body : BodyFound ds cs L sparse bytes) where
  -- N, where element 4 starts, and how many codes element 5 has
  abbrev n : ℕ
  n = length ds

  abbrev deviations_from : ℕ
  deviations_from = at + pick sparse ((slots_of n + 7) / 8) 0

  abbrev present : ℕ
  present = present_before bytes at (control_for sparse L) (slots_of n)

  -- the elements fill the bytes
  whole : deviations_from + n * 4 + present * L ≡ length bytes
  whole = rw (head.control, head.size, head.body) at body.whole

  -- a) to g)
  fit-passes : fit_rules bytes ≡ passes
  fit-passes =
      rw (fit-answers bytes, head.passed, head.control, head.size, head.body)
      (size-passes sparse n (length bytes - at) L rows (omega (arith, whole))
      (λ e. omega (arith, rw (e, ne_eqb L 0 (omega arith)) at whole)) (λ e. omega (arith, rw e at whole)))

  -- h) to k)
  elements-pass : element_rules None bytes (head_of bytes) ≡ passes
  elements-pass =
      rw (
        head.control,
        head.size,
        head.body,
        all_held bytes deviations_from 4 n (omega (arith, whole)),
        le-ltb (length bytes - (deviations_from + n * 4)) (present * L) (omega (arith, whole)),
        le-leb 1 L least,
        le-leb L 8 most,
        all_held bytes (deviations_from + n * 4) L present (omega (arith, whole)),
        whole,
        le-ltb (length bytes) (length bytes) (omega arith),
        and-false (sparse && not (eqb L 0)),
      )

  -- l)
  rooms-pass : (d c p : ℕ) → length ds ≤ d → length cs ≤ c → length cs ≤ p → room_rules (head_of bytes) d c p ≡ passes
  rooms-pass d c p i j k =
      rw (head.control, head.size, ← count, le-ltb d (length ds) i, le-ltb c (length cs) j, le-ltb p (length cs) k)

  -- how many numbers each list has
  rows-found : deviation_count (head_of bytes) ≡ length ds
  rows-found = rw (head.control, head.size)

  slots-found : slots_of (said_size bytes) ≡ length cs
  slots-found = rw head.size (sym count)

  -- all pass, and the lists are those of the numbers
  pub back_found : Back ds cs L sparse bytes
  back_found =
      let values = values-found ds cs L sparse least most bytes head body in
      record {
        answers = λ d c p i j k. rw (fit-passes, elements-pass, rooms-pass d c p i j k, head.control, head.size, ← count);
        deviations = tab-is rows-found values.deviations;
        states = λ ranged. tab-is slots-found (λ k h. rw (values.slots k h (ranged k h)) (by_bool (sent sparse cs k) (λ t. rw t) (λ f. rw f)));
        correlations = λ ranged. tab-is slots-found (λ k h. rw (values.slots k h (ranged k h)) (by_bool (sent sparse cs k) (λ t. rw t) (λ f. rw f)));
      }

-- a pack, in either form
pub back : (ds cs : List ℕ) (L : ℕ) (sparse : Bool) → length ds ≤ max_rows → length cs ≡ slots_of (length ds) → 1 ≤ L → L ≤ 8
    → Back ds cs L sparse (form_bytes ds cs L sparse)
back ds cs L sparse rows count least most =
    let p = found ds cs L sparse rows count least most in
    back_found ds cs L sparse rows count least most (form_bytes ds cs L sparse) (length (element1 (length ds) ++ element2 sparse L)) p.head p.body
