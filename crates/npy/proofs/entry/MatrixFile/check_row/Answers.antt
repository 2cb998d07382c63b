-- `MatrixFile::check_row` meets its contract. The invariant: both places are those of the next pair, and the pairs before it
-- agree.
use mathlib.Core.Path.{◌≡◌, sym, ◌∙◌}
use Prim.Native.Nat.{ℕ, ◌+◌, ◌-◌}
use native.Mathlib.Omega.{arith}
use borrow.Author.Tests.{eq-eqb, ne_eqb}
use Rattle.answers.specs.declared.Refusal.TheVariants.{Asymmetric}
use Rattle.answers.specs.Table.{Answer}
use Rattle.npy.specs.Matrix.{entry_in}
use Rattle.npy.specs.Rules.{pair_rule}
use Rattle.answers.proofs.Each.{each_more, each-stops}
use Rattle.npy.proofs.Places.{place-along, place_down, place-fits}
use Rattle.npy.proofs.entry.MatrixFile.check_row.Goals as goal
use Rattle.npy.proofs.entry.MatrixFile.check_row.Goals.{After-entry_at-in-loop-j}

-- the two entries of the pair
pair : (c : After-entry_at-in-loop-j) → let a = c.args in
    let j = c.loop-j.j in
    (c.entry_at.result ≡ entry_in a.self.now.file.now a.self.now.rows a.i j) × (c.entry_at-in-loop-j.result ≡ entry_in a.self.now.file.now a.self.now.rows j a.i)
pair c =
    let l = c.loop-j in
    (rw l.invariant.along at c.entry_at.ensures, rw l.invariant.down at c.entry_at-in-loop-j.ensures)

pub entry_at-requires-in-loop-j : goal.entry_at-requires-in-loop-j
entry_at-requires-in-loop-j c =
    let l = c.loop-j in
    let a = c.args in
    omega (arith, c.requires, a.self.now.whole, l.invariant.down, place-fits a.self.now.rows l.j a.i (omega arith) c.requires)

pub returns-then-entry_at : goal.returns-then-entry_at
returns-then-entry_at c =
    let l = c.loop-j in
    let a = c.args in
    let p = pair (goal.at.returns-then-entry_at c).After-entry_at-in-loop-j in
    let rule : ℕ → Answer = λ k. pair_rule a.self.now.file.now a.self.now.rows a.i (a.i + 1 + k) in
    let e : a.i + 1 + (l.j - (a.i + 1)) ≡ l.j = omega arith in
    each-stops rule (a.self.now.rows - 1 - a.i) (l.j - (a.i + 1)) (Asymmetric a.i l.j) (omega arith) l.invariant.agree
    (rw (e, ne_eqb (entry_in a.self.now.file.now a.self.now.rows a.i l.j) (entry_in a.self.now.file.now a.self.now.rows l.j a.i) (rw (p.0, p.1) at c.if-entry_at.true)))

pub loop-j-preserved : goal.loop-j-preserved
loop-j-preserved c =
    let l = c.loop-j in
    let a = c.args in
    let k = l.j - (a.i + 1) in
    let p = pair (goal.at.loop-j-preserved c).After-entry_at-in-loop-j in
    let rule : ℕ → Answer = λ k. pair_rule a.self.now.file.now a.self.now.rows a.i (a.i + 1 + k) in
    let e : a.i + 1 + k ≡ l.j = omega arith in
    let f : l.j + 1 - (a.i + 1) ≡ k + 1 = omega arith in
    let same = eq-eqb (entry_in a.self.now.file.now a.self.now.rows a.i l.j) (entry_in a.self.now.file.now a.self.now.rows l.j a.i) (sym p.0 ∙ c.if-entry_at.false ∙ p.1) in
    record {
      along = rw place-along (omega (arith, l.invariant.along));
      down = rw place_down (omega (arith, l.invariant.down));
      agree = rw f (each_more rule k l.invariant.agree (rw (e, same)));
    }

pub returns : goal.returns
returns c =
    let l = c.loop-j in
    let a = c.args in
    let e : l.j - (a.i + 1) ≡ a.self.now.rows - 1 - a.i = omega (arith, c.requires) in
    sym (rw e at l.invariant.agree)
