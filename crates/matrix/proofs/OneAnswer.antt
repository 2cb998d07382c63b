-- No second answer meets a contract: two that do are the same.
-- Assumes nothing.
use mathlib.Core.Path.{◌≡◌, refl, sym, ap, ◌∙◌}
use Rattle.std.specs.Prelude.{Err, Ok, Result, ℕ}
use Rattle.answers.specs.OneAnswer.{OneResult}
use Rattle.answers.specs.Table.{Answer}
use Rattle.answers.proofs.OneToOne.{listed-one, done-not-refused}
use Rattle.matrix.specs.Lookup.{number, cell_listed}
use Rattle.matrix.proofs.lookup.correlation.Reads as correlation
use Rattle.matrix.proofs.usable.usable.Reads as usable
use Rattle.answers.specs.declared.Refusal.{Refusal}

-- what determines the listed answer determines the enum
cell-one : (r s : Result ℕ Refusal) → cell_listed r ≡ cell_listed s → r ≡ s
cell-one (Ok b) (Ok c) e = let l = ap (λ (a : Answer). a.carries) e in cc
cell-one (Ok b) (Err s) e = absurd (done-not-refused (number b) s refl e)
cell-one (Err r) (Ok c) e = absurd (done-not-refused (number c) r refl (sym e))
cell-one (Err r) (Err s) e = ap Err (listed-one r s e)

pub correlation-one : OneResult correlation.Learnt
correlation-one κs a r r' s s' p q = cell-one r r' (p ∙ sym q)

pub usable-one : OneResult usable.Learnt
usable-one κs a r r' s s' p q = p ∙ sym q
