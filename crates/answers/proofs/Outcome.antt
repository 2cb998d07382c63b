-- What an outcome tells of the rules that it goes by, and they of it.
-- Assumes nothing.
use mathlib.Core.Path.{◌≡◌}
use Prim.Native.Nat.{ℕ}
use native.Mathlib.Omega.{arith}
use borrow.Author.Tests.{eqb-true}
use lib.Dec.{eqb}
use Rattle.answers.specs.Table.{Answer}
use Rattle.answers.specs.Listed.{listed}
use Rattle.answers.specs.declared.Refusal.{Refusal}
use Rattle.answers.proofs.OneToOne.{refused-not-done}
use Rattle.answers.proofs.Rules.{picked}
use Rattle.answers.specs.Outcome.{Outcome, found, refused, unless}

module _ {A : Type 0} (rules : Answer) (a : A) where
  pub found-tells : {x : A} → found x ≡ unless rules a → (rules.number ≡ 0) × (x ≡ a)
  found-tells {x} =
      picked (λ (o : Outcome A). found x ≡ o → (rules.number ≡ 0) × (x ≡ a)) (eqb rules.number 0) (found a) (refused rules)
      (λ t e. (eqb-true rules.number 0 t, (cc))) (λ _ e. absurd (let z : ◌≡◌ {A = ℕ} 0 1 = cc in omega arith))

  pub refused-tells : {r : Answer} → refused r ≡ unless rules a → rules ≡ r
  refused-tells {r} =
      picked (λ (o : Outcome A). refused r ≡ o → rules ≡ r) (eqb rules.number 0) (found a) (refused rules)
      (λ _ e. absurd (let z : ◌≡◌ {A = ℕ} 0 1 = cc in omega arith)) (λ _ e. cc)

  pub found-where : rules.number ≡ 0 → found a ≡ unless rules a
  found-where z = rw z

  pub refused-where : (r : Refusal) → rules ≡ listed r → refused (listed r) ≡ unless rules a
  refused-where r e = rw (e, refused-not-done r)

-- what was found is no refusal, and one thing
pub found-one : {A : Type 0} {x y : A} → found x ≡ found y → x ≡ y
found-one e = cc

pub found-not-refused : {A : Type 0} {x : A} {r : Answer} → refused r ≡ found x → ⊥
found-not-refused e = let z : ◌≡◌ {A = ℕ} 0 1 = cc in omega arith
