-- `write::put_body` meets its contract: each turn writes the next row behind those before it.
use mathlib.Core.Path.{◌≡◌, sym}
use Prim.Native.Nat.{◌+◌, ◌-◌, ◌*◌, ◌≤◌}
use native.Mathlib.Omega.{arith}
use lib.ListN.{length}
use Rattle.answers.proofs.Runs.{run_none, run_room, run_more, run-done}
use Rattle.layout.specs.Triangle.{slot_of}
use Rattle.layout.proofs.RowByRow.{row_first, row_next, row_within}
use Rattle.npy_export.specs.File.{body_of}
use Rattle.npy_export.proofs.Body.{length-row, length-body}
use Rattle.npy_export.proofs.write.put_body.Goals as goal
use Rattle.npy_export.proofs.write.put_body.Goals.{In-loop-i}

-- the next row has room
room : (c : In-loop-i)
    → c.loop-i.at + 8 * c.args.rows ≤ length c.loop-i.out
room c =
    let a = c.args in
    rw (length-row a.rows a.deviations.now a.correlations.now c.loop-i.i) at (run_room c.loop-i.invariant.0 c.loop-i-test.true)

-- the next row's first slot
carried : (c : In-loop-i) → let n = c.args.rows in
    c.loop-i.first + (n - 1 - c.loop-i.i) ≡ slot_of n (c.loop-i.i + 1) (c.loop-i.i + 1 + 1)
carried c =
    let n = c.args.rows in
    rw c.loop-i.invariant.1 (sym (row_next n c.loop-i.i c.loop-i-test.true))

pub loop-i-init : goal.loop-i-init
unfolding body_of
loop-i-init c =
    let a = c.args in
    (run_none (rw (length-body a.rows a.deviations.now a.correlations.now) c.requires.2), sym (row_first a.rows))

pub put_row-requires : goal.put_row-requires
put_row-requires c =
    let t = (goal.at.put_row-requires c).In-loop-i in (t.loop-i-test.true, t.requires.0, t.requires.1, t.loop-i.invariant.1, room t)

pub overflow_add-first : goal.overflow_add-first
overflow_add-first c =
    let t = (goal.at.overflow_add-first c).In-loop-i in omega (arith, carried t, row_within t.args.rows (t.loop-i.i + 1) (omega (arith, t.loop-i-test.true)), t.requires.1)

pub overflow_add-at : goal.overflow_add-at
overflow_add-at c = omega (arith, room (goal.at.overflow_add-at c).In-loop-i)

pub loop-i-preserved : goal.loop-i-preserved
loop-i-preserved c =
    let t = (goal.at.loop-i-preserved c).In-loop-i in let a = t.args in (
      run_more t.loop-i.invariant.0 t.loop-i-test.true c.put_row.ensures (rw (length-row a.rows a.deviations.now a.correlations.now t.loop-i.i)),
      carried t,
    )

pub returns : goal.returns
unfolding body_of
returns c = run-done c.loop-i.invariant.0 c.loop-i-test.false
