-- `MatrixFile::store_row` meets its contract. The invariant: so many slots of the row are stored, and the place is that of the
-- next.
use mathlib.Core.Path.{◌≡◌, ◌∙◌}
use Prim.Native.Nat.{ℕ, ◌+◌, ◌-◌, ◌≤◌}
use native.Mathlib.Nat.{add-zero}
use native.Mathlib.Omega.{arith}
use lib.ListN.{length}
use Rattle.std.specs.List.{between}
use Rattle.answers.proofs.Tab.{tab-none, tab-more}
use Rattle.npy_header.proofs.Filled.{part-stored, part-done}
use Rattle.npy_export.proofs.Body.{row_ends}
use Rattle.npy.specs.Matrix.{entry_in}
use Rattle.npy.proofs.Places.{place-along}
use Rattle.npy.proofs.entry.MatrixFile.store_row.Goals as goal
use Rattle.npy.proofs.entry.MatrixFile.store_row.Goals.{Start}

-- the part of the row ends within the room
ends : (c : Start) → c.args.first + (c.args.self.now.rows - 1 - c.args.i) ≤ length c.args.correlations.now
ends c = let a = c.args in let r = c.requires in row_ends a.self.now.rows a.i a.first a.correlations.now r.0 r.2 r.1

pub overflow_add-correlation-items : goal.overflow_add-correlation-items
overflow_add-correlation-items c = omega (arith, ends (goal.at.overflow_add-correlation-items c).Start)

pub offset_bounds-correlations-first : goal.offset_bounds-correlations-first
offset_bounds-correlations-first c = omega (arith, ends (goal.at.offset_bounds-correlations-first c).Start)

pub slice_bounds-correlation-items-end : goal.slice_bounds-correlation-items-end
slice_bounds-correlation-items-end c = ends (goal.at.slice_bounds-correlation-items-end c).Start

pub loop-correlation-init : goal.loop-correlation-init
loop-correlation-init c =
    let a = c.args in
    let part = between a.first (a.first + (a.self.now.rows - 1 - a.i)) a.correlations.now in
    record {
      stored = tab-none (length part) (λ k. entry_in a.self.now.file.now a.self.now.rows a.i (a.i + 1 + k)) {l₀ = part} (omega arith);
      place = rw add-zero c.place-at.ensures;
    }

pub loop-correlation-preserved : goal.loop-correlation-preserved
loop-correlation-preserved c =
    let l = c.loop-correlation in
    let a = c.args in
    let e : a.i + 1 + (l.correlation-index + 1) ≡ a.i + 1 + l.correlation-index + 1 = omega arith in
    let f : ℕ → ℕ = λ k. entry_in a.self.now.file.now a.self.now.rows a.i (a.i + 1 + k) in
    record {
      stored = tab-more (length (between a.first (a.first + (a.self.now.rows - 1 - a.i)) a.correlations.now)) f l.invariant.stored c.loop-correlation-test.true (rw l.invariant.place at c.entry_at.ensures);
      place = rw (e, place-along) (omega (arith, l.invariant.place));
    }

pub returns : goal.returns
returns c =
    let a = c.args in let l = c.loop-correlation in
    let n = a.self.now.rows - 1 - a.i in
    let f : ℕ → ℕ = λ k. entry_in a.self.now.file.now a.self.now.rows a.i (a.i + 1 + k) in
    let h = ends (goal.at.returns c).Start in
    let e : a.first + n - a.first ≡ n = omega arith in
    part-stored a.first (a.first + n - a.first) f a.correlations.now (omega arith) (part-done f l.invariant.stored c.loop-correlation-test.false) ∙ rw e
