use mathlib.Core.Path.{◌≡◌}
use Prim.Native.Nat.{◌+◌, ◌*◌}
use Rattle.answers.specs.Table.{passes}
use Rattle.deviations.specs.Form.{form_listed}
use Rattle.rules.specs.Decided.{form_rule}
use Rattle.rules.proofs.turns.rows_in_turn.Given as goal

abbrev pub invariant-loop-row : goal.invariant-loop-row
invariant-loop-row l = (l.next ≡ l.at + l.row * l.control.slen) × (form_rule l.bytes l.at l.control (form_listed l.form) l.row ≡ passes)
