-- `decode::value_of` meets its contract: the nearest binary64's bits give it back, and are no NaN's.
use Rattle.numbers.proofs.Nearest.{nearest-number, nearest-value}
use Rattle.imapb.specs.Mapping.{value}
use Rattle.imapb.proofs.Range.{one-is}
use Rattle.imapb.proofs.decode.value_of.Goals as goal

pub float_from_bits-result : goal.float_from_bits-result
float_from_bits-result c = rw (c.nearest_binary64.ensures, nearest-number) tt

pub returns : goal.returns
unfolding value
returns c = rw (c.nearest_binary64.ensures, nearest-value, c.args.mapping.scale_is, one-is)
