-- `numeric::float_of` meets its contract: the patterns above the infinity's are the NaNs'.
use mathlib.Core.Path.{◌≡◌, refl, sym, ◌∙◌}
use mathlib.Core.Bool.{true, true≢false}
use Prim.Native.Nat.{ℕ, ◌*◌, ◌%◌, ◌^◌, ◌<◌}
use borrow.Author.Tests.{lt-ltb, le-ltb}
use lib.Ieee.{Float, nan, inf, fin, binary64, of_bits, of_fields, odd, is_nan, div}
use lib.Ieee.Bits.{nan_bits_is, nan_bits_above}
use Rattle.replies.proofs.numeric.float_of.Goals as goal

is-nan : (x : Float) → is_nan x ≡ true → x ≡ nan
unfolding is_nan
is-nan nan h = refl
is-nan (inf s) h = absurd (true≢false (sym h))
is-nan (fin s m e) h = absurd (true≢false (sym h))

-- the one NaN, for each of their patterns
nan-above : (b : ℕ) → 2047 * 2 ^ 52 < b % 2 ^ 63 → of_bits binary64 b ≡ nan
nan-above b h = is-nan (of_bits binary64 b) (sym (nan_bits_is binary64 b) ∙ nan_bits_above binary64 b ∙ lt-ltb (2047 * 2 ^ 52) (b % 2 ^ 63) h)

zero_by_zero : div binary64 (of_bits binary64 0) (of_bits binary64 0) ≡ nan
unfolding div of_bits of_fields odd
zero_by_zero = refl

pub float_from_bits-result : goal.float_from_bits-result
float_from_bits-result c =
    let b = c.args.bits in
    rw (nan_bits_above binary64 b ∙ le-ltb (2047 * 2 ^ 52) (b % 2 ^ 63) c.if-bits-gt9218868437227405312.false) tt

pub returns-then-bits-gt9218868437227405312 : goal.returns-then-bits-gt9218868437227405312
returns-then-bits-gt9218868437227405312 c = rw (nan-above c.args.bits c.if-bits-gt9218868437227405312.true) zero_by_zero
