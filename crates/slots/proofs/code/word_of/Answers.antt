-- `code::word_of` meets its contract: the sum with 1 is a whole number of 2^-53, up to 2^53 of them from the middle
-- on either way, so that the cast loses nothing.
use mathlib.Core.Path.{◌≡◌, refl, ap, ◌∙◌}
use Prim.Native.Nat.{ℕ, ◌+◌, ◌*◌, ◌/◌, ◌%◌, ◌^◌, ◌≤◌}
use native.Mathlib.Omega.{arith}
use borrow.Author.Tests.{lt-ltb}
use mir.Syntax.{w64}
use mir.Val.{to_z, of_z}
use mir.Facts.{to_z-of_z}
use lib.IntN.{ℤ, pos, ◌+ℤ◌}
use lib.Ieee.{Float, binary64, of_bits, to_signed}
use lib.Ieee.Bits.{of_bits-fits, nan_bits_is}
use lib.Ieee.Casts.{to_signed_in}
use Rattle.imapb.specs.Mapping.{power}
use Rattle.imapb.proofs.Range.{one-is, range-number}
use Rattle.imapb.proofs.Eight.{from_middle, Summed, summed, code-eight}
use Rattle.slots.proofs.code.word_of.Goals as goal
use Rattle.slots.proofs.code.word_of.Goals.{Start}

abbrev number : Start → Float
number c = of_bits binary64 c.args.value

known : (c : Start) → Summed (number c)
known c = summed (number c) (of_bits-fits binary64 c.args.value) c.requires

top-is : of_bits binary64 0x4340000000000000 ≡ power 53
unfolding of_bits
top-is = refl

-- the machine's sum of the two whole numbers, and its reading of that
whole : (c : Start) → to_z w64 (of_z w64 (to_signed 63 (from_middle (number c)))) +ℤ pos (2 ^ 53) ≡ pos (known c).count
whole c = ap (λ (z : ℤ). z +ℤ pos (2 ^ 53)) (to_z-of_z {w = w64} {z = to_signed 63 (from_middle (number c))} (record { sfits = to_signed_in 63 (from_middle (number c)) })) ∙ (known c).cast_is

as_read : (n : ℕ) → n ≤ 2 ^ 54 → to_z w64 n ≡ pos n
as_read n h = rw (lt-ltb n (2 ^ 63) (omega arith))

turned : (n : ℕ) → n ≤ 2 ^ 54 → n % 2 ^ 55 * 512 + n / 2 ^ 55 ≡ n * 512
turned n h = omega arith

pub float_from_bits-sum : goal.float_from_bits-sum
float_from_bits-sum c = rw (nan_bits_is, range-number (number c) c.requires) tt

pub float_to_int-from_middle : goal.float_to_int-from_middle
float_to_int-from_middle c = rw (one-is, top-is) (known (goal.at.float_to_int-from_middle c).Start).castable

pub overflow_add-code : goal.overflow_add-code
overflow_add-code c = let k = known (goal.at.overflow_add-code c).Start in rw (one-is, top-is, whole (goal.at.overflow_add-code c).Start) (record { sfits = omega (arith, k.most) })

pub overflow_cast-code : goal.overflow_cast-code
overflow_cast-code c = let k = known (goal.at.overflow_cast-code c).Start in rw (one-is, top-is, whole (goal.at.overflow_cast-code c).Start, as_read k.count k.most) (tt, omega (arith, k.most))

pub returns : goal.returns
returns c = let k = known (goal.at.returns c).Start in rw (one-is, top-is, whole (goal.at.returns c).Start, as_read k.count k.most, code-eight k) (turned k.count k.most)
