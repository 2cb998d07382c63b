-- `set::decide` meets its contract: what is counted up to a place, and the rules that are left.
use Rattle.std.proofs.Common.{◌≡◌, sym, ap, ◌∙◌, arith}
use Rattle.std.proofs.lemmas.Result.{err_from_is_err_and}
use Rattle.std.proofs.lemmas.Option.{same_Some}
use Rattle.std.specs.Prelude.{Some}
use Rattle.std.specs.Result.{result_err}
use Rattle.answers.specs.Listed.{listed}
use Rattle.answers.proofs.Next.{check-passed}
use Rattle.sets.specs.Items.{item_at}
use Rattle.sets.proofs.Items.{item-tells}
use Rattle.sets.proofs.Walk.{walk-faulty, walk_refused, walk-on, walk-all}
use Rattle.sets.proofs.set.decide.Goals as goal
use Rattle.sets.proofs.set.decide.Goals.{In_ok-item}

item : (k : In_ok-item) → Some k.in_ok-item.item ≡ item_at k.args.set.now k.loop-at.at
item k = sym k.in_ok-item.ensures.ok_part ∙ k.read_item.ensures

pub returns-in_err-item : goal.returns-in_err-item
returns-in_err-item c =
    let a = c.args in
    let p = err_from_is_err_and c.from_residual.result c.from_residual.ensures.1 in
    let e = c.in_err-item.ensures in
    rw (p.1, p.2)
    (ap listed (same_Some _ _ (ap result_err (rw e.ok_part at e.value)))
    ∙ sym (walk-faulty a.set.now a.room c.loop-at.invariant (omega arith) (sym e.ok_part ∙ c.read_item.ensures)))

pub returns-in_err-check_item : goal.returns-in_err-check_item
returns-in_err-check_item c =
    let a = c.args in
    let p = err_from_is_err_and c.from_residual-in_err-check_item.result c.from_residual-in_err-check_item.ensures.1 in
    let e = c.in_err-check_item in
    rw (p.1, p.2)
    (sym (walk_refused a.set.now a.room c.loop-at.invariant (item (goal.at.returns-in_err-check_item c).In_ok-item) e.field-0.0 e.ensures))

pub loop-at-smaller : goal.loop-at-smaller
loop-at-smaller c =
    let k = (goal.at.loop-at-smaller c).In_ok-item in let t = item-tells k.args.set.now k.loop-at.at (item k) in
    omega (arith, t.0, t.1, t.2)

pub loop-at-preserved : goal.loop-at-preserved
loop-at-preserved c =
    let a = c.args in
    rw (c.pack_count-packs.ensures, c.tag_count-seen.ensures)
    (walk-on a.set.now a.room c.loop-at.invariant (item (goal.at.loop-at-preserved c).In_ok-item) (check-passed c.in_ok-check_item.was c.check_item.ensures))

pub returns : goal.returns
returns c = let a = c.args in sym (walk-all a.set.now a.room c.loop-at.invariant (omega arith))
