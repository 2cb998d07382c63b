-- `write::put_entry` meets its contract: what comes back of the lent part is a run of stores.
use Rattle.answers.proofs.Stored.{sets-part}
use Rattle.numbers.specs.Words.{low_bytes_of}
use Rattle.numbers.proofs.Low.{length-low}
use Rattle.npy_export.proofs.write.put_entry.Goals as goal

pub returns : goal.returns
returns c =
    let a = c.args in
    sets-part (λ k. low_bytes_of k a.bits) (λ k. length-low k a.bits) a.out.now a.at 8 c.requires c.write_le.ensures
