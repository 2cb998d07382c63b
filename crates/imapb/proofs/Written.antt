-- What the writer of a code needs of the scaled sum: a number from 0 on and below 2 ^ 64, so that its whole part is
-- defined.
-- Assumes nothing.
use mathlib.Core.Path.{◌≡◌, refl}
use mathlib.Core.Bool.{true, false}
use Prim.Native.Nat.{ℕ, ◌-◌, ◌*◌, ◌^◌, ◌≤◌}
use lib.Dec.{T}
use lib.IntN.{pos}
use lib.Pow.{pow_pos}
use lib.Ieee.{Float, fin, binary64, fits, is_nan, add, mul, le, lt}
use lib.Ieee.Fits.{mul-fits}
use Rattle.numbers.proofs.WholePart.{reached, under}
use Rattle.imapb.specs.Mapping.{one, scale_of, in_range}
use Rattle.imapb.proofs.Units.{by_value}
use Rattle.imapb.proofs.Mapped.{rounded_in, product, product_small}
use Rattle.imapb.proofs.UnitRange.{range-of, place_of}

abbrev pub scaled_sum : ℕ → Float → Float
scaled_sum L v = mul binary64 (add binary64 v one) (scale_of L)

pub record Cuttable (x : Float) : Type 0 where
  pub no_nan : is_nan x ≡ false
  pub held : T (fits binary64 x)
  pub from_zero : le (fin false 0 (pos 0)) x ≡ true
  pub under_64 : lt x (fin false 1 (pos 64)) ≡ true

pub cuttable : (L : ℕ) → 1 ≤ L → L ≤ 8 → (v : Float) → T (fits binary64 v) → T (in_range v) → Cuttable (scaled_sum L v)
unfolding is_nan
cuttable L least most v held ranged =
    let x = scaled_sum L v in
    let p = place_of L least most v held ranged in
    let n = rounded_in binary64 p.count * 2 ^ (8 * L - 2) in
    let c = product (range-of L least most) p in
    record {
      no_nan = by_value (λ (z : Float). is_nan z ≡ false) false n (2 ^ 1074) (λ m e k. refl) x c;
      held = mul-fits binary64 (add binary64 v one) (scale_of L);
      from_zero = reached x n (2 ^ 1074) (pow_pos 1074) c;
      under_64 = under x n (2 ^ 1074) c (product_small (range-of L least most) p);
    }
