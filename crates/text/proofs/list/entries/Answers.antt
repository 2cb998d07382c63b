-- `list::entries` meets its contract. The invariant: what is left to read answers and stores as all of it.
use mathlib.Core.Path.{sym, ◌∙◌}
use native.Mathlib.Omega.{arith}
use Rattle.std.proofs.lemmas.List.{set-get_or}
use Rattle.text.proofs.Entered.{entered-more, entered-bad, entered_all}
use Rattle.text.proofs.list.entries.Goals as goal

pub returns-in_err-number-clause-value : goal.returns-in_err-number-clause-value
returns-in_err-number-clause-value c =
    let p = c.loop-place.invariant in
    c.from_residual.ensures ∙ (entered-bad p (omega (arith, p.long)) (sym c.entry_after_space.ensures ∙ c.in_err-number.was)).0

pub returns-in_err-number-clause-list_after : goal.returns-in_err-number-clause-list_after
returns-in_err-number-clause-list_after c =
    let p = c.loop-place.invariant in
    rw set-get_or (entered-bad p (omega (arith, p.long)) (sym c.entry_after_space.ensures ∙ c.in_err-number.was)).1

pub loop-place-preserved : goal.loop-place-preserved
loop-place-preserved c =
    let p = c.loop-place.invariant in
    entered-more p (omega (arith, p.long)) (sym c.entry_after_space.ensures ∙ c.in_ok-number.was)

pub returns-clause-list_after : goal.returns-clause-list_after
returns-clause-list_after c =
    let p = c.loop-place.invariant in
    (entered_all p (omega (arith, p.long))).1
