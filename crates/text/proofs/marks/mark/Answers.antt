-- `marks::mark` meets its contract.
use native.Mathlib.Omega.{arith}
use Rattle.text.proofs.Marked.{clonable, filled}
use Rattle.text.proofs.marks.mark.Goals as goal

pub fill-requires : goal.fill-requires
fill-requires g c = clonable g.T.Clone.is_infallible g.T.Clone.is_clone c.MARK.ensures g.met.T.Marked.cloned

pub returns : goal.returns
returns g c =
    let t = g.T.Clone in
    let end = c.within-end in
    rw (← end.ensures.value)
    (filled t.is_infallible t.is_clone c.MARK.ensures g.met.T.Marked.cloned end.result c.args.lent.now (omega arith) c.fill.ensures.after)
