-- `Opened::deviations_held` meets its contract.
use mathlib.Core.Path.{sym, ◌∙◌}
use Rattle.elements.specs.Elements.{deviation_count}
use Rattle.rules.proofs.Decided.{by-first-deviation}
use Rattle.rules.proofs.opened.Opened.deviations_held.Goals as goal

pub returns : goal.returns
returns c =
    let a = c.args.self in
    rw c.in_default.is
    (rw (c.left.ensures, c.deviation_count-count.ensures, c.check_number-first.ensures, c.deviation_at.ensures) at c.in_turn.ensures
    ∙ sym (by-first-deviation a.bytes.now a.places.deviations a.places.head.control (deviation_count a.places.head)))
