-- `form::begins_as` meets its contract. The invariant: what is left of the line begins as all of it.
use mathlib.Core.Path.{sym, ◌∙◌}
use native.Mathlib.Omega.{arith}
use Rattle.requests.proofs.Begins.{begun-field}
use Rattle.requests.proofs.form.begins_as.Goals as goal

pub returns-then-is_field : goal.returns-then-is_field
returns-then-is_field c =
    let a = c.args in
    sym (begun-field a.form a.line.now c.loop-i.i (omega arith) c.letter-letter.ensures (sym c.if-is_field.true ∙ c.is_field.ensures))
    ∙ c.loop-i.invariant
