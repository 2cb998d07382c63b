-- `Planned::write_each` meets its contract: each turn writes the next correlation's code behind those before it.
use Prim.Native.Nat.{◌+◌, ◌≤◌}
use native.Mathlib.Omega.{arith}
use lib.ListN.{length}
use Rattle.slots.proofs.AllSlots.{last_none, rest-is, last-room, last_more}
use Rattle.slots.proofs.planned.Planned.write_each.Goals as goal
use Rattle.slots.proofs.planned.Planned.write_each.Goals.{In-loop-value}

-- the next code has room
room : (c : In-loop-value) → c.loop-value.next + c.args.self.now.plan.clen ≤ length c.loop-value.out
room c = last-room c.args.self.now.correlations.now c.args.from c.loop-value-test.true c.args.self.now.plan.clen c.loop-value.invariant

pub loop-value-init : goal.loop-value-init
loop-value-init c = last_none c.args.self.now.correlations.now c.args.from c.args.self.now.plan.clen c.requires.1

pub put_slot-requires : goal.put_slot-requires
put_slot-requires c =
    let a = c.args in
    let p = a.self.now in
    (p.fits.codable.clen, rw (rest-is p.correlations.now a.from c.loop-value-test.true) (p.fits.codable.values (a.from + c.loop-value.value-index)), room (goal.at.put_slot-requires c).In-loop-value)

pub overflow_add-next : goal.overflow_add-next
overflow_add-next c = omega (arith, room (goal.at.overflow_add-next c).In-loop-value)

pub loop-value-preserved : goal.loop-value-preserved
loop-value-preserved c =
    last_more c.args.self.now.correlations.now c.args.from c.loop-value-test.true c.args.self.now.plan.clen c.loop-value.invariant c.put_slot.ensures
