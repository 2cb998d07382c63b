-- The top two bits of a code: both are set from three halves of the top code on.
-- Assumes nothing.
use mathlib.Core.Path.{◌≡◌, ap, ◌∙◌}
use Prim.Native.Nat.{ℕ, ◌-◌, ◌*◌, ◌/◌, ◌%◌, ◌^◌, ◌≤◌, ◌<◌}
use native.Mathlib.Nat.{pow-succ', div-lt_iff_lt-mul, le-div_iff_mul-le}
use native.Mathlib.Omega.{arith}
use borrow.Author.Tests.{lt-leb, eq-eqb, ne_eqb}
use lib.Pow.{pow_pos, pow_mono}
use Rattle.imapb.specs.declared.decode.DecodedImapb.TheVariants.{OutOfRange}
use Rattle.imapb.specs.Mapping.{top_of, value_of}
use Rattle.imapb.specs.Special.{special_reading, reading}

module _ (L y : ℕ) (least : 1 ≤ L) where
  abbrev h : ℕ
  h = 2 ^ (8 * L - 2)

  top-is : top_of L ≡ 2 * h
  top-is = ap (λ (x : ℕ). 2 ^ x) (omega arith) ∙ pow-succ' 2 (8 * L - 2)

  all-is : 2 ^ (8 * L) ≡ 2 * top_of L
  all-is = ap (λ (x : ℕ). 2 ^ x) (omega arith) ∙ pow-succ' 2 (8 * L - 1)

  pub both-set : top_of L / 2 * 3 ≤ y → y < 2 ^ (8 * L) → y / h ≡ 3
  both-set l most =
      let p : 3 ≤ y / h = (le-div_iff_mul-le (pow_pos (8 * L - 2))).1 (omega (arith, top-is)) in
      let q : y / h < 4 = (div-lt_iff_lt-mul (pow_pos (8 * L - 2))).1 (omega (arith, top-is, all-is)) in
      omega arith

  pub reads-special : y / h ≡ 3 → reading L y ≡ special_reading L (y / 2 ^ (8 * L - 5)) (y % 2 ^ (8 * L - 5)) y
  reads-special e = rw (eq-eqb (y / h) 3 e)

  -- below, what lies above the top code is a number outside
  pub reads-outside : y < top_of L / 2 * 3 → top_of L < y → reading L y ≡ OutOfRange (value_of L y)
  reads-outside l above =
      let q : y / h < 3 = (div-lt_iff_lt-mul (pow_pos (8 * L - 2))).1 (omega (arith, top-is)) in
      rw (ne_eqb (y / h) 3 (omega arith), lt-leb y (top_of L) above)

  -- and those three halves fit a word
  pub halves-fit : L ≤ 8 → top_of L / 2 * 3 < 2 ^ 64
  halves-fit most = omega (arith, top-is, all-is, pow_mono {i = 8 * L} {j = 64} (omega arith))
