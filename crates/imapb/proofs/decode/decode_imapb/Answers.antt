-- `decode::decode_imapb` meets its contract.
use mathlib.Core.Path.{◌≡◌, sym, ◌∙◌}
use lib.ListN.{length}
use Rattle.numbers.proofs.Bytes.{word_lt}
use Rattle.imapb.specs.Tables.{code_rules}
use Rattle.imapb.proofs.Length.{length-found, slice-length}
use Rattle.imapb.proofs.decode.decode_imapb.Goals as goal

pub reading_of-requires : goal.reading_of-requires
reading_of-requires c =
    let b = c.args.bytes.now in
    let m = c.mapping.result in
    let t = length-found (code_rules c.args.length b) c.args.length c.in_ok-length.was c.length_in.ensures in
    let n : length b ≡ m.length = slice-length c.args.length b t.0 ∙ sym t.1 ∙ sym c.mapping.ensures in
    rw c.code_in.ensures (rw n at (word_lt b (rw n m.most)))
