-- Laws of rules by name: what a ruling tells of the rules behind it, and the answer without the name.
-- Assumes nothing.
use mathlib.Core.Path.{◌≡◌, refl, sym}
use Prim.Native.Nat.{ℕ}
use native.Mathlib.Omega.{arith}
use borrow.Author.Tests.{eqb-true}
use lib.Dec.{eqb}
use Rattle.std.specs.Prelude.{Result, ⊤}
use Rattle.answers.specs.Table.{Answer, next}
use Rattle.answers.specs.Listed.{listed}
use Rattle.answers.proofs.Next.{IsRule}
use Rattle.answers.proofs.OneToOne.{listed-one, result-one}
use Rattle.answers.proofs.Rules.{picked}
use Rattle.layout.specs.declared.rule.Rule.{Rule}
use Rattle.layout.specs.declared.rule.Broken.{Broken}
use Rattle.layout.specs.Ruled.{Ruled, passed, refused_by, ruled, named, unnamed}

-- the order is the same without the names
pub unnamed-next : (x : Rule) (a : Answer) (b : Ruled) {c : Answer} → unnamed b ≡ c → unnamed (named x a b) ≡ next a c
unnamed-next x a b {c} e =
    picked (λ u. unnamed u ≡ next a c) (eqb a.number 0) b (refused_by x a) (λ t. rw t e) (λ f. rw f)

pub unnamed-last : (x : Rule) (a : Answer) → IsRule a → unnamed (named x a passed) ≡ a
unnamed-last x a i =
    picked (λ u. unnamed u ≡ a) (eqb a.number 0) passed (refused_by x a) (λ t. sym (i.done (eqb-true a.number 0 t))) (λ _. refl)

-- a rule that refuses ends an order of rules, and one that passes goes on to those behind
module _ (x : Rule) (a : Answer) (b : Ruled) where
  pub stops-by : {y : Rule} {c : Answer} → refused_by y c ≡ named x a passed → refused_by y c ≡ named x a b
  stops-by {y} {c} =
      picked (λ u. refused_by y c ≡ u → refused_by y c ≡ named x a b) (eqb a.number 0) passed (refused_by x a)
      (λ _ e. let z : ◌≡◌ {A = ℕ} 0 1 = cc in absurd (omega arith)) (λ f e. rw f e)

  pub goes_by : passed ≡ named x a passed → named x a b ≡ b
  goes_by =
      picked (λ u. passed ≡ u → named x a b ≡ b) (eqb a.number 0) passed (refused_by x a)
      (λ t _. rw t) (λ _ e. let z : ◌≡◌ {A = ℕ} 0 1 = cc in absurd (omega arith))

-- what determines the listed rule determines it, and what determines the listed ruling the answer
pub broken-one : (x y : Broken) → x.rule ≡ y.rule → listed x.refusal ≡ listed y.refusal → x ≡ y
broken-one x y p e = let q = listed-one x.refusal y.refusal e in λ i. record { rule = p i; refusal = q i }

pub ruling-one : (a b : Result ⊤ Broken) → ruled a ≡ ruled b → a ≡ b
ruling-one = result-one ruled (λ _ _ _. refl) (λ x y e. broken-one x y (cc) (cc)) (λ x r e. cc)
