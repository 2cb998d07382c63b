-- Rules by name: a) to g) and then h) to k); and the answers of h) to k) without the names.
-- Assumes nothing.
use mathlib.Core.Path.{◌≡◌, refl}
use mathlib.Core.List.{List, [], ◌∷◌}
use Prim.Native.Nat.{ℕ}
use lib.Dec.{eqb}
use Rattle.std.specs.Prelude.{Option}
use Rattle.answers.specs.Table.{Answer, next}
use Rattle.answers.proofs.Next.{rules}
use Rattle.answers.proofs.Rules.{picked}
use Rattle.layout.specs.declared.rule.Rule.{Rule}
use Rattle.layout.specs.declared.rule.Rule.TheVariants.{A, B, C, D, E, F, G, H, I, J, K}
use Rattle.layout.specs.Ruled.{Ruled, passed, refused_by, named, behind}
use Rattle.layout.specs.Size.{fit_ruled}
use Rattle.layout.proofs.Ruled.{unnamed-next, unnamed-last}
use Rattle.layout.specs.declared.header.Head.{Head}
use Rattle.elements.specs.Elements.{head_of}
use Rattle.deviations.specs.declared.form.DeviationRange.{DeviationRange}
use Rattle.rules.specs.Named.{rule_of, pack_ruled}
use Rattle.rules.specs.Rules.{rule_h, rule_i, rule_j, rule_k, element_ruled, element_rules}

-- the first of so many rules that refuses
abbrev pub first_of : (Rule → Answer) → List Rule → Ruled
first_of answers [] = passed
first_of answers (x ∷ xs) = named x (answers x) (first_of answers xs)

-- a) to k), one list
abbrev pub order : List Rule
order = A ∷ B ∷ C ∷ D ∷ E ∷ F ∷ G ∷ H ∷ I ∷ J ∷ K ∷ []

more : (x : Rule) (a : Answer) (b u : Ruled) {c : Ruled} → behind b u ≡ c → behind (named x a b) u ≡ named x a c
more x a b u {c} e =
    picked (λ w. behind w u ≡ named x a c) (eqb a.number 0) b (refused_by x a) (λ t. rw t e) (λ f. rw f)

module _ (bytes : List ℕ) where
  abbrev rest : Ruled
  rest = element_ruled (rule_of bytes H) bytes (head_of bytes)

  pub pack-first : pack_ruled bytes ≡ first_of (rule_of bytes) order
  unfolding pack_ruled
  pack-first =
      more A (rule_of bytes A) _ rest
      (more B (rule_of bytes B) _ rest
      (more C (rule_of bytes C) _ rest
      (more D (rule_of bytes D) _ rest
      (more E (rule_of bytes E) _ rest
      (more F (rule_of bytes F) _ rest (more G (rule_of bytes G) passed rest refl))))))

  -- where one of a) to g) refuses, and where they pass
  pub pack-early : {x : Rule} {a : Answer} → fit_ruled bytes ≡ refused_by x a → pack_ruled bytes ≡ refused_by x a
  unfolding pack_ruled
  pack-early e = rw e

  pub pack-later : fit_ruled bytes ≡ passed → pack_ruled bytes ≡ element_ruled (rule_of bytes H) bytes (head_of bytes)
  unfolding pack_ruled
  pack-later e = rw e

-- ---- the answers of h) to k), one behind the other
module _ (range : Option DeviationRange) (bytes : List ℕ) (h : Head) where
  pub element-answers : element_rules range bytes h ≡ next (rule_h range bytes h) (next (rule_i bytes h) (next (rule_j bytes h) (rule_k bytes h)))
  element-answers =
      unnamed-next H (rule_h range bytes h) _
      (unnamed-next I (rule_i bytes h) _ (unnamed-next J (rule_j bytes h) _ (unnamed-last K (rule_k bytes h) (search rules))))
