-- `pack::plan_pack` meets its contract: the rules in their order, and then the plan.
use mathlib.Core.Path.{◌≡◌}
use native.Mathlib.Omega.{arith}
use lib.ListN.{length}
use Rattle.answers.proofs.Next.{check-passed}
use Rattle.answers.specs.Outcome.{found}
use Rattle.plan.specs.Listed.{counted}
use Rattle.plan.specs.Rules.{count_rules, range_rules}
use Rattle.plan.specs.Zero.{zeros_before}
use Rattle.plan.proofs.Checked.{zeros-le}
use Rattle.plan.proofs.Counts.{counts-tell}
use Rattle.plan.proofs.Ordered.{bounded-slots, all_pass}
use Rattle.answers.proofs.Outcome.{found-tells}
use Rattle.plan.proofs.pack.plan_pack.Goals as goal
use Rattle.plan.proofs.pack.plan_pack.Goals.{In_ok-check_counts, In_ok-zeros}

-- the counts pass
counted-well : (c : In_ok-check_counts) → let a = c.args in (count_rules a.rows (length a.correlations.now) a.clen).number ≡ 0
counted-well c = check-passed c.in_ok-check_counts.was c.check_counts.ensures

-- and every correlation, of which so many are 0
all-counted : (c : In_ok-zeros) → found c.in_ok-zeros.zeros ≡ counted c.args.correlations.now
all-counted c = c.in_ok-zeros.ensures

pub plan_of-requires : goal.plan_of-requires
plan_of-requires c =
    let e = (goal.at.plan_of-requires c).In_ok-check_counts in let a = e.args in
    let cs = a.correlations.now in
    let t = (counts-tell a.rows (length cs) a.clen).done (counted-well e) in
    let z = (found-tells (range_rules cs) (zeros_before cs (length cs)) (all-counted (goal.at.plan_of-requires c).In_ok-zeros)).1 in
    let b = bounded-slots a.rows cs a.clen (counted-well e) in
    (t.rows, omega (arith, c.bounded_slots-slots.ensures), omega (arith, c.bounded_slots-slots.ensures, zeros-le cs (length cs)), t.clen.1)

pub returns : goal.returns
returns c =
    let k = (goal.at.returns c).In_ok-zeros in let e = (goal.at.returns c).In_ok-check_counts in let a = e.args in
    all_pass a.rows a.correlations.now a.clen (counted-well e) (all-counted k) (rw c.bounded_slots-slots.ensures at c.plan_of.ensures)
