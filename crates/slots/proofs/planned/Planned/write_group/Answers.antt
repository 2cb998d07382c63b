-- `Planned::write_group` meets its contract: each turn writes the next slot's code, if it is sent, behind those before
-- it, and appends its bit.
use Prim.Native.Nat.{◌+◌, ◌*◌, ◌<◌}
use native.Mathlib.Omega.{arith}
use Rattle.answers.proofs.Runs.{run_room}
use Rattle.slots.proofs.Sparse.{eight-byte, eight-more}
use Rattle.slots.proofs.planned.Planned.write_group.Goals as goal
use Rattle.slots.proofs.planned.Planned.write_group.Goals.{After-put_sent-bit}

-- the bits with the slot's own fit a byte
byte : (c : After-put_sent-bit) → c.loop-j.bits * 2 + c.put_sent-bit.result < 256
byte c =
    eight-byte c.loop-j.invariant c.loop-j-test.true c.value_at.ensures c.put_sent-bit.ensures.0

pub put_sent-bit-requires : goal.put_sent-bit-requires
put_sent-bit-requires c =
    let v = c.value_at.ensures in
    (c.args.self.now.fits.codable.clen, rw v (c.args.self.now.fits.codable.values (c.args.from + c.loop-j.j)), rw v (run_room c.loop-j.invariant.run c.loop-j-test.true))

pub overflow_mul-bits : goal.overflow_mul-bits
overflow_mul-bits c = omega (arith, byte (goal.at.overflow_mul-bits c).After-put_sent-bit)

pub overflow_add-bits : goal.overflow_add-bits
overflow_add-bits c = omega (arith, byte (goal.at.overflow_add-bits c).After-put_sent-bit)

pub loop-j-preserved : goal.loop-j-preserved
loop-j-preserved c =
    eight-more c.loop-j.invariant c.loop-j-test.true c.value_at.ensures c.put_sent-bit.ensures.0 c.put_sent-bit.ensures.1
