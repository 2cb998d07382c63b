-- `compare::same_slots` meets its contract. The invariant: the slots passed came back.
use mathlib.Core.Path.{sym, ◌∙◌}
use native.Mathlib.Omega.{arith}
use Rattle.answers.proofs.Every.{tested-not}
use Rattle.trip.proofs.compare.same_slots.Goals as goal

pub returns-then-not-same_slot : goal.returns-then-not-same_slot
returns-then-not-same_slot c =
    tested-not c.loop-k.invariant (omega arith) (sym c.same_slot.ensures ∙ c.if-not-same_slot.true)
