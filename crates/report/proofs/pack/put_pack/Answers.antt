-- `pack::put_pack` meets its contract: one piece behind the other.
use native.Mathlib.Omega.{arith}
use lib.Seq.{length-take-le}
use Rattle.text.proofs.Adding.{adds_then}
use Rattle.report.proofs.Slots.{slots-front}
use Rattle.report.proofs.pack.put_pack.Goals as goal

pub returns : goal.returns
returns c =
    let p = c.args.pack in
    let d = length-take-le p.deviations c.args.deviations.now c.requires.1 in
    let m = length-take-le p.slots c.args.correlations.now c.requires.2 in
    rw (m, slots-front p.matrix_size p.slots c.args.correlations.now c.args.states.now (omega (arith, c.requires.0)))
    (adds_then (adds_then (rw (← d) at c.put_counts.ensures) c.put_rows.ensures) c.put_slots.ensures)
