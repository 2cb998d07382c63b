-- `pack::put_row` meets its contract: each turn puts the next slot's line behind those before it.
use mathlib.Core.Path.{◌≡◌, ap₂}
use Prim.Native.Nat.{ℕ, ◌+◌, ◌-◌, ◌<◌}
use native.Mathlib.Numerals.{add-one}
use native.Mathlib.Omega.{arith}
use lib.ListN.{get_or}
use Rattle.layout.specs.Triangle.{slots_of}
use Rattle.layout.proofs.Along.{slot_at, slot-below}
use Rattle.lines.specs.Lines.{c_line}
use Rattle.text.proofs.Adding.{adds_then}
use Rattle.report.proofs.pack.put_row.Goals as goal
use Rattle.report.proofs.pack.put_row.Goals.{In-loop-j}

below : (c : In-loop-j) → let a = c.args in a.first + (c.loop-j.j - 1 - a.i) < slots_of a.rows
below c = slot-below c.requires.0 c.requires.1 (omega arith) c.loop-j-test.true

pub bounds-states-slot : goal.bounds-states-slot
bounds-states-slot c = omega (arith, below (goal.at.bounds-states-slot c).In-loop-j)

pub offset_bounds-correlations-slot : goal.offset_bounds-correlations-slot
offset_bounds-correlations-slot c = omega (arith, below (goal.at.offset_bounds-correlations-slot c).In-loop-j)

pub bounds-correlations-slot : goal.bounds-correlations-slot
bounds-correlations-slot c = omega (arith, below (goal.at.bounds-correlations-slot c).In-loop-j)

pub overflow_add-slot : goal.overflow_add-slot
overflow_add-slot c = omega (arith, below (goal.at.overflow_add-slot c).In-loop-j)

pub loop-j-preserved : goal.loop-j-preserved
loop-j-preserved c =
    let a = c.args in
    let p = c.loop-j in
    let k = p.j - 1 - a.i in
    let more : p.j + 1 - 1 - a.i ≡ k + 1 = omega arith in
    let here : p.j ≡ a.i + 1 + k = omega arith in
    let line = λ (j slot : ℕ). c_line a.i j (get_or a.states.now slot 0) (get_or a.correlations.now slot 0) in
    let q = rw (ap₂ line here (slot_at {j = p.j} c.requires.0 c.requires.1 (omega arith))) at c.put_line.ensures in
    rw (more, add-one k) (adds_then p.invariant q)
