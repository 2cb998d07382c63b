-- `elements::write_deviations` meets its contract: each turn writes the next deviation's four bytes behind those before
-- it.
use Prim.Native.Nat.{◌+◌, ◌≤◌}
use native.Mathlib.Omega.{arith}
use lib.ListN.{length}
use Rattle.answers.proofs.Runs.{run_none, run_room, run_more}
use Rattle.numbers.proofs.Bytes.{length-bytes}
use Rattle.writer.proofs.Lengths.{length-4}
use Rattle.slots.proofs.Runs.{part-written}
use Rattle.writer.proofs.elements.write_deviations.Goals as goal
use Rattle.writer.proofs.elements.write_deviations.Goals.{In-loop-deviation}

-- the next four bytes have room
room : (c : In-loop-deviation) → c.loop-deviation.next + 4 ≤ length c.loop-deviation.out
room c = rw length-bytes at (run_room c.loop-deviation.invariant c.loop-deviation-test.true)

pub loop-deviation-init : goal.loop-deviation-init
loop-deviation-init c = run_none (omega (arith, length-4 c.args.deviations.now))

pub overflow_add-end : goal.overflow_add-end
overflow_add-end c = omega (arith, room (goal.at.overflow_add-end c).In-loop-deviation)

pub slice_bounds-write_be-end : goal.slice_bounds-write_be-end
slice_bounds-write_be-end c = room (goal.at.slice_bounds-write_be-end c).In-loop-deviation

pub loop-deviation-preserved : goal.loop-deviation-preserved
loop-deviation-preserved c =
    let t = (goal.at.loop-deviation-preserved c).In-loop-deviation in let l = t.loop-deviation in
    run_more l.invariant t.loop-deviation-test.true
    (part-written l.out l.next 4 (room t) c.binary64_to_binary32.ensures c.write_be.ensures)
    (rw length-bytes)
