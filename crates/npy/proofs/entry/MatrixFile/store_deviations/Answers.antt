-- `MatrixFile::store_deviations` meets its contract. The invariant: the place is that of the next entry of the diagonal.
use mathlib.Core.Path.{◌∙◌}
use Prim.Native.Nat.{ℕ}
use native.Mathlib.Omega.{arith}
use lib.ListN.{length, take}
use Rattle.answers.specs.Lent.{tab}
use Rattle.answers.proofs.Lent.{length-tab}
use Rattle.answers.proofs.Stored.{sets_over}
use Rattle.answers.proofs.Tab.{tab-none, tab-more}
use Rattle.npy_header.proofs.Filled.{part-stored, part-done}
use Rattle.npy.specs.Matrix.{entry_in}
use Rattle.npy.proofs.Places.{place-along, place_down}
use Rattle.npy.proofs.entry.MatrixFile.store_deviations.Goals as goal

pub loop-deviation-init : goal.loop-deviation-init
loop-deviation-init c =
    let a = c.args in
    let part = take a.self.now.rows a.deviations.now in
    record {
      stored = tab-none (length part) (λ i. entry_in a.self.now.file.now a.self.now.rows i i) {l₀ = part} (omega arith);
      place = c.place-at.ensures;
    }

pub loop-deviation-preserved : goal.loop-deviation-preserved
loop-deviation-preserved c =
    let l = c.loop-deviation in
    let a = c.args in
    let f : ℕ → ℕ = λ i. entry_in a.self.now.file.now a.self.now.rows i i in
    record {
      stored = tab-more (length (take a.self.now.rows a.deviations.now)) f l.invariant.stored c.loop-deviation-test.true (rw l.invariant.place at c.entry_at.ensures);
      place = rw (place-along, place_down) (omega (arith, l.invariant.place));
    }

pub returns : goal.returns
returns c =
    let a = c.args in
    let f : ℕ → ℕ = λ i. entry_in a.self.now.file.now a.self.now.rows i i in
    part-stored 0 a.self.now.rows f a.deviations.now (omega (arith, c.requires)) (part-done f c.loop-deviation.invariant.stored c.loop-deviation-test.false)
    ∙ sets_over (tab a.self.now.rows f) a.deviations.now (omega (arith, c.requires, length-tab a.self.now.rows f))
