-- `MatrixFile::store_correlations` meets its contract. The invariant: the rows before this one are stored, and the first slot is
-- the one behind them.
use mathlib.Core.Path.{◌≡◌, refl, sym, ap, ◌∙◌}
use Prim.Native.Nat.{ℕ, ◌+◌, ◌-◌}
use native.Mathlib.Omega.{arith}
use Rattle.answers.specs.Lent.{joined}
use Rattle.answers.proofs.Stored.{sets_over}
use Rattle.layout.specs.Triangle.{slot_of}
use Rattle.layout.proofs.RowByRow.{row_first, row_next, row_within, few-slots}
use Rattle.npy.specs.Matrix.{row_in, correlations_in}
use Rattle.npy.proofs.Matrix.{length-correlations, stored_row}
use Rattle.npy.proofs.entry.MatrixFile.store_correlations.Goals as goal
use Rattle.npy.proofs.entry.MatrixFile.store_correlations.Goals.{In-loop-i}

-- the next row's first slot
carried : (c : In-loop-i) → let n = c.args.self.now.rows in
    c.loop-i.first + (n - 1 - c.loop-i.i) ≡ slot_of n (c.loop-i.i + 1) (c.loop-i.i + 1 + 1)
carried c =
    let n = c.args.self.now.rows in
    ap (λ (x : ℕ). x + (n - 1 - c.loop-i.i)) c.loop-i.invariant.1 ∙ sym (row_next n c.loop-i.i c.loop-i-test.true)

pub loop-i-init : goal.loop-i-init
loop-i-init c = (refl, sym (row_first c.args.self.now.rows))

pub overflow_add-first : goal.overflow_add-first
overflow_add-first c =
    let t = (goal.at.overflow_add-first c).In-loop-i in let n = t.args.self.now.rows in
    omega (arith, carried t, row_within n (t.loop-i.i + 1) (omega arith), few-slots n t.args.self.now.few)

pub loop-i-preserved : goal.loop-i-preserved
loop-i-preserved c =
    let t = (goal.at.loop-i-preserved c).In-loop-i in let l = t.loop-i in
    let a = t.args in (
      rw l.invariant.0 at c.store_row.ensures ∙ stored_row a.self.now.file.now a.self.now.rows a.correlations.now l.i l.first (omega arith) l.invariant.1,
      carried t,
    )

pub returns : goal.returns
unfolding correlations_in
returns c =
    let l = c.loop-i in
    let a = c.args in
    let e : l.i ≡ a.self.now.rows = omega arith in
    let f = rw e at l.invariant.0 in
    f ∙ sets_over (joined a.self.now.rows (row_in a.self.now.file.now a.self.now.rows)) a.correlations.now (omega (arith, c.requires, length-correlations a.self.now.file.now a.self.now.rows))
