-- The numbers as they are read: each fits the bytes that it was written in.
-- Assumes nothing.
use mathlib.Core.Path.{◌≡◌, refl, ap, ◌∙◌}
use mathlib.Core.Bool.{Bool, true, false}
use mathlib.Core.List.{List}
use Prim.Native.Nat.{ℕ, ◌-◌, ◌*◌, ◌^◌, ◌≤◌, ◌<◌}
use native.Mathlib.Nat.{mod-eq_of_lt}
use native.Mathlib.Omega.{arith}
use lib.Dec.{T, leb}
use lib.ListN.{length, get_or}
use lib.Pow.{pow-lt}
use lib.Ieee.{binary32, binary64, top, nan_bits, of_bits, to_bits}
use lib.Ieee.Bits.{to_bits-lt, of_bits-fits}
use Rattle.answers.specs.Table.{pick}
use Rattle.answers.proofs.Rules.{picked}
use Rattle.numbers.specs.Words.{word_of, bytes_of}
use Rattle.numbers.specs.Conversions.{nearest, quiet_nan, top_fraction, converted}
use Rattle.numbers.proofs.Bytes.{word-of-bytes, bits}
use Rattle.numbers.proofs.Exact.{nearest-fits}
use Rattle.imapb.specs.Mapping.{code_of, in_range}
use Rattle.imapb.proofs.Law.{code-le-top, never-special}
use Rattle.elements.specs.Elements.{slot, absent, code_slot}
use Rattle.elements.specs.declared.slot.Slot.{Slot}
use Rattle.slots.specs.Slots.{sent}
use Rattle.trip.specs.Found.{control_for, HeadFound, BodyFound}
use Rattle.trip.specs.Values.{correlation_kept, ValuesFound}

-- two picks that agree where the test holds
under : (b : Bool) {x y : Slot} → (b ≡ true → x ≡ y) → pick b x absent ≡ pick b y absent
under true e = e refl
under false e = refl

-- ---- a deviation: a binary32 is four bytes
-- a NaN
quiet_small : (s : Bool) (t : ℕ) → quiet_nan binary32 s t < 2 ^ 32
quiet_small true t = omega arith
quiet_small false t = omega arith

-- what a deviation is converted to, be it a number or a NaN
converted-small : (d : ℕ) → converted binary64 binary32 d < 2 ^ 32
unfolding converted
converted-small d =
    let s = leb (top binary64) d in
    let t = top_fraction binary64 d in
    let x = of_bits binary64 d in
    picked (λ (n : ℕ). n < 2 ^ 32) (nan_bits binary64 d) (quiet_nan binary32 s t) (to_bits binary32 (nearest binary32 x))
    (λ _. quiet_small s t) (λ _. to_bits-lt binary32 (nearest binary32 x) (nearest-fits binary32 x))

-- its bytes read back
pub word-of-deviation : (d : ℕ) → word_of (bytes_of 4 (converted binary64 binary32 d)) ≡ converted binary64 binary32 d
word-of-deviation d = word-of-bytes 4 (converted binary64 binary32 d) (omega arith) ∙ mod-eq_of_lt (converted-small d)

-- ---- a code of a number within -1 to 1 is L bytes
module _ (L c : ℕ) (least : 1 ≤ L) (most : L ≤ 8) (ranged : T (in_range (of_bits binary64 c))) where
  -- it lies below 256^L
  code-small : code_of L (of_bits binary64 c) < 256 ^ L
  code-small =
      rw (bits L)
      (omega (arith, code-le-top L least most (of_bits binary64 c) (of_bits-fits binary64 c) ranged, pow-lt {i = 8 * L - 1} {j = 8 * L} (omega arith)))

  -- its bytes read back
  pub word-of-code : word_of (bytes_of L (code_of L (of_bits binary64 c))) ≡ code_of L (of_bits binary64 c)
  word-of-code = word-of-bytes L (code_of L (of_bits binary64 c)) most ∙ mod-eq_of_lt code-small

  -- and give its value
  code_reads : (cs : Bool) → code_slot (control_for cs L) (bytes_of L (code_of L (of_bits binary64 c))) ≡ slot (correlation_kept L c) 1
  code_reads cs = rw (word-of-code, never-special L least most (of_bits binary64 c) (of_bits-fits binary64 c) ranged)

-- ---- the numbers of a pack
pub values-found : (ds cs : List ℕ) (L : ℕ) (sparse : Bool) → 1 ≤ L → L ≤ 8 → (bytes : List ℕ) {at : ℕ}
    → HeadFound (length ds) L sparse bytes at → BodyFound ds cs L sparse bytes → ValuesFound ds cs L sparse bytes
values-found ds cs L sparse least most bytes head body =
    record {
      deviations = λ i h. rw (body.deviations i h, head.control) (ap (converted binary32 binary64) (word-of-deviation (get_or ds i 0)));
      slots =
          λ k h ranged.
          rw (body.present k h)
          (under (sent sparse cs k) (λ s. rw (body.codes k h s, head.control) (code_reads L (get_or cs k 0) least most ranged sparse)));
    }
