-- `mapped::value_of` meets its contract: nothing above the code of 1 is a value, and every other code is one, no NaN.
use Rattle.std.proofs.Common.{◌≡◌, arith}
use lib.Ieee.{binary64, of_bits, sub, div}
use Rattle.imapb.specs.Mapping.{value, value_of}
use Rattle.imapb.proofs.Law.{reads-value}
use Rattle.imapb.proofs.NoNan.{value-number}
use Rattle.imapb.proofs.Range.{one-is}
use Rattle.codes.proofs.mapped.value_of.Goals as goal
use Rattle.codes.proofs.mapped.value_of.Goals.{After-nearest}

-- the code's number
read : (c : After-nearest) → let a = c.args in
    sub binary64 (div binary64 c.nearest.result a.mapping.scale) (of_bits binary64 0x3ff0000000000000) ≡ value_of a.mapping.length a.y
unfolding value
read c =
    rw (c.nearest.ensures, c.args.mapping.scale_is, one-is)

pub float_to_bits-result : goal.float_to_bits-result
float_to_bits-result c =
    let a = c.args in
    rw (read (goal.at.float_to_bits-result c).After-nearest, value-number a.mapping.length a.y) tt

pub returns : goal.returns
returns c =
    rw (read (goal.at.returns c).After-nearest, reads-value c.args.mapping.length c.args.y c.args.mapping.least (omega (arith, c.args.mapping.top_is)))
