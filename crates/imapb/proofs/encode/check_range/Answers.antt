-- `encode::check_range` meets its contract: one test of whole numbers tells.
use lib.Ieee.{to_bits}
use Rattle.imapb.proofs.Range.{in-range, out_of_range}
use Rattle.imapb.proofs.encode.check_range.Goals as goal

pub returns-then-value-gt-ONE : goal.returns-then-value-gt-ONE
unfolding to_bits
returns-then-value-gt-ONE c = rw (out_of_range c.args.value c.if-value-gt-ONE.true)

pub returns : goal.returns
returns c = rw (in-range c.args.value c.if-value-gt-ONE.false)
