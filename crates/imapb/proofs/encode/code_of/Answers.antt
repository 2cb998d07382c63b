-- `encode::code_of` meets its contract: the scaled sum is a number from 0 to below 2^64, so that it has a whole part.
use mathlib.Core.Path.{◌≡◌, ◌∙◌}
use Prim.Native.Nat.{ℕ}
use native.Mathlib.Omega.{arith}
use lib.Ieee.{Float, binary64, of_bits}
use lib.Ieee.Bits.{of_bits-fits, of_bits-to_bits, nan_bits_is}
use Rattle.std.specs.Prelude.{Some}
use Rattle.numbers.specs.Conversions.{whole_part}
use Rattle.imapb.specs.Mapping.{code, code_of}
use Rattle.imapb.proofs.Range.{one-is, range-number}
use Rattle.imapb.proofs.Written.{scaled_sum, Cuttable, cuttable}
use Rattle.imapb.proofs.encode.code_of.Goals as goal
use Rattle.imapb.proofs.encode.code_of.Goals.{After-whole_part-whole, Start}

abbrev number : Start → Float
number c = of_bits binary64 c.args.value

abbrev scaled : Start → Float
scaled c = scaled_sum c.args.length.bytes (number c)

known : (c : Start) → Cuttable (scaled c)
known c = cuttable c.args.length.bytes c.args.length.least c.args.length.most (number c) (of_bits-fits binary64 c.args.value) c.requires

whole : (c : After-whole_part-whole) → c.whole_part-whole.result ≡ Some (code_of c.args.length.bytes (number c.before.before))
unfolding whole_part code
whole c =
    let k = known c.before.before in
    c.whole_part-whole.ensures ∙ rw (c.scale.ensures, one-is, of_bits-to_bits binary64 (scaled c.before.before) k.held, k.from_zero, k.under_64)

pub float_from_bits-sum : goal.float_from_bits-sum
float_from_bits-sum c = rw (nan_bits_is, range-number (number (goal.at.float_from_bits-sum c).Start) c.requires) tt

pub float_to_bits-sum : goal.float_to_bits-sum
float_to_bits-sum c = rw (c.scale.ensures, one-is, (known (goal.at.float_to_bits-sum c).Start).no_nan) tt

pub returns-in_default : goal.returns-in_default
returns-in_default c = absurd (let z : ◌≡◌ {A = ℕ} 0 1 = cc (whole (goal.at.returns-in_default c).After-whole_part-whole, c.in_default.is) in omega arith)

pub returns : goal.returns
returns c = cc (whole (goal.at.returns c).After-whole_part-whole, c.in-Some.is)
