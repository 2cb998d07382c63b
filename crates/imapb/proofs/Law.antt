-- The law of a mapped number in the range -1 to 1: its code is no special one, and reads back near it.
-- Assumes nothing.
use mathlib.Core.Path.{◌≡◌, ap, ◌∙◌}
use Prim.Native.Nat.{ℕ, ◌-◌, ◌*◌, ◌/◌, ◌^◌, ◌≤◌, ◌<◌}
use native.Mathlib.Nat.{le_trans, pow-succ', div-lt_iff_lt-mul}
use native.Mathlib.Omega.{arith}
use borrow.Author.Tests.{le-leb, ne_eqb}
use lib.Dec.{T}
use lib.Pow.{pow_pos, pow_mono}
use lib.Ieee.{Float, binary64, fits}
use Rattle.imapb.specs.declared.decode.DecodedImapb.TheVariants.{Value}
use Rattle.imapb.specs.Mapping.{code, value, top_of, code_of, value_of, in_range}
use Rattle.imapb.specs.Special.{reading}
use Rattle.imapb.specs.Precision.{Kept}
use Rattle.imapb.proofs.Mapped.{code-top, back-near}
use Rattle.imapb.proofs.UnitRange.{range-of, place_of}

-- a code up to that of 1 has not both of its top bits set
pub no-flags : (L y : ℕ) → 1 ≤ L → y ≤ top_of L → y / 2 ^ (8 * L - 2) < 0b11
no-flags L y least h =
    let t = 8 * L - 2 in
    let e : top_of L ≡ 2 * 2 ^ t = ap (λ (x : ℕ). 2 ^ x) (omega arith) ∙ pow-succ' 2 t in
    (div-lt_iff_lt-mul (pow_pos t)).1 (omega (arith, pow_pos t))

pub reads-value : (L y : ℕ) → 1 ≤ L → y ≤ top_of L → reading L y ≡ Value (value_of L y)
reads-value L y least h =
    let q = no-flags L y least h in
    rw (ne_eqb (y / 2 ^ (8 * L - 2)) 0b11 (omega arith), le-leb y (top_of L) h)

module _ (L : ℕ) (least : 1 ≤ L) (most : L ≤ 8) (v : Float) (held : T (fits binary64 v)) (ranged : T (in_range v)) where
  pub code-le-top : code_of L v ≤ top_of L
  unfolding code
  code-le-top = le_trans (code-top (range-of L least most) (place_of L least most v held ranged)) (pow_mono (omega arith))

  pub never-special : reading L (code_of L v) ≡ Value (value_of L (code_of L v))
  never-special = reads-value L (code_of L v) least code-le-top

-- at most 2 ^ -53 above v, and less than one step below it
pub kept : (L : ℕ) → 1 ≤ L → L ≤ 6 → (v : Float) → T (fits binary64 v) → T (in_range v) → Kept L v
unfolding code value
kept L least few v held ranged =
    let most : L ≤ 8 = omega arith in
    record {
      reads = never-special L least most v held ranged;
      near = back-near (range-of L least most) (omega arith) 1021 (omega arith) (place_of L least most v held ranged);
    }
