-- `decide::decide` meets its contract.
use mathlib.Core.Path.{◌≡◌, sym, ap}
use Rattle.std.proofs.lemmas.Result.{err_from_is_err_and}
use Rattle.answers.specs.Table.{Answer}
use Rattle.elements.proofs.Opened.{opened-placed}
use Rattle.deviations.specs.Range.{lent_rule}
use Rattle.rules.proofs.Verdict.{early, later, all_pass}
use Rattle.rules.proofs.decide.decide.Goals as goal
use Rattle.rules.proofs.decide.decide.Goals.{In_ok-check_deviation_range}

-- the range was not refused
lent : (c : In_ok-check_deviation_range) → (lent_rule c.args.range).number ≡ 0
lent c = sym (ap (λ (x : Answer). x.number) c.in_ok-check_deviation_range.ensures)

pub returns-in_err-places : goal.returns-in_err-places
returns-in_err-places c =
    let e = err_from_is_err_and c.from_residual-in_err-places.result c.from_residual-in_err-places.ensures.1 in
    rw (e.1, e.2)
    (early c.args.range c.args.bytes.now (lent (goal.at.returns-in_err-places c).In_ok-check_deviation_range)
    c.in_err-places.field-0.0.refusal c.in_err-places.ensures)

pub invariant_of-opened : goal.invariant_of-opened
invariant_of-opened c = record { placed = opened-placed c.args.bytes.now c.in_ok-places.ensures }

pub returns-in_err-elements_whole : goal.returns-in_err-elements_whole
returns-in_err-elements_whole c =
    let a = c.args in
    let e = err_from_is_err_and c.from_residual-in_err-elements_whole.result c.from_residual-in_err-elements_whole.ensures.1 in
    rw (e.1, e.2)
    (later a.range a.bytes.now (lent (goal.at.returns-in_err-elements_whole c).In_ok-check_deviation_range) c.in_ok-places.ensures
    c.in_err-elements_whole.field-0.0.refusal (rw c.deviation_form-form.ensures at c.in_err-elements_whole.ensures))

pub returns : goal.returns
returns c =
    let a = c.args in
    all_pass a.range a.bytes.now (lent (goal.at.returns c).In_ok-check_deviation_range) c.in_ok-places.ensures _ c.deviation_form-form.ensures
    (rw c.deviation_form-form.ensures at c.in_ok-elements_whole.ensures)
