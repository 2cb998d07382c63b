use mathlib.Core.Path.{◌≡◌}
use Prim.Native.Nat.{◌+◌, ◌*◌}
use Rattle.answers.specs.Lent.{tab}
use Rattle.answers.proofs.Lent.{Front}
use Rattle.deviations.specs.Form.{form_listed}
use Rattle.reader.specs.Rows.{form_in}
use Rattle.reader.proofs.fill.fill_deviations.Given as goal

abbrev pub invariant-loop-i : goal.invariant-loop-i
invariant-loop-i l = Front (tab l.count (form_in l.bytes l.at l.control (form_listed l.form))) l.initial.out l.i l.out × (l.next ≡ l.at + l.i * l.control.slen)
