-- `write::put_row` meets its contract: its three parts, one behind the other.
use Rattle.npy_export.proofs.Put.{row-stored}
use Rattle.npy_export.proofs.write.put_row.Goals as goal

pub returns : goal.returns
returns c =
    let a = c.args in
    row-stored a.rows a.deviations.now a.correlations.now a.i c.requires.0 a.out.now a.at
    c.put_left.ensures c.put_entry.ensures c.put_right.ensures
