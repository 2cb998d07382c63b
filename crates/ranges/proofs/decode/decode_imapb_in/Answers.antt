-- `decode::decode_imapb_in` meets its contract.
use Rattle.std.proofs.Common.{◌∙◌}
use Rattle.ranges.proofs.Reading.{worked-out-is}
use Rattle.ranges.proofs.decode.decode_imapb_in.Goals as goal

pub returns : goal.returns
returns c =
    let a = c.args in
    rw c.range_mapping.ensures at c.decode_worked_out.ensures ∙ worked-out-is a.params.min a.params.max a.params.length a.bytes.now
