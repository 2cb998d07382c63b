-- `marked::put_sent` meets its contract: a correlation that is 0 has neither bit nor code.
use mathlib.Core.Path.{◌≡◌}
use mathlib.Core.Bool.{false}
use Rattle.numbers.proofs.Bytes.{length-bytes}
use Rattle.plan.specs.Zero.{is_zero}
use Rattle.slots.proofs.Sparse.{not-one}
use Rattle.slots.proofs.marked.put_sent.Goals as goal
use Rattle.slots.proofs.marked.put_sent.Goals.{Else-zero_of-eq1}

-- the branch that writes
sends : (c : Else-zero_of-eq1) → is_zero c.args.value ≡ false
sends c = not-one (is_zero c.args.value) c.zero_of.ensures c.if-zero_of-eq1.false

pub put_slot-requires : goal.put_slot-requires
put_slot-requires c =
    (c.requires.0, c.requires.1, rw (sends (goal.at.put_slot-requires c).Else-zero_of-eq1, length-bytes) at c.requires.2)
