-- `check::check_correlations` meets its contract, by the one pass or by the plain form.
use native.Mathlib.Omega.{arith}
use lib.ListN.{length}
use Rattle.plan.proofs.Checked.{passed-all}
use Rattle.plan.proofs.Raised.{met-passed}
use Rattle.plan.proofs.check.check_correlations.Goals as goal

pub returns-then-found-eq0 : goal.returns-then-found-eq0
returns-then-found-eq0 c =
    let cs = c.args.correlations.now in
    rw c.tally_of-found.ensures.1 (passed-all (met-passed cs (length cs) (omega arith) (rw c.tally_of-found.ensures.0 at c.if-found-eq0.true)) (omega arith))
