-- The rule that is named is the first that refuses, and none is named exactly where all pass; the same without the name.
-- Assumes nothing.
use mathlib.Core.Path.{◌≡◌, refl, sym, ap, ◌∙◌}
use mathlib.Core.List.{List, [], ◌∷◌}
use Prim.Native.Nat.{ℕ, suc, ◌<◌}
use native.Mathlib.Decide.{dec_lt}
use native.Mathlib.Omega.{arith}
use borrow.Author.Tests.{eqb-true, eqb-false, ne_eqb}
use lib.Dec.{eqb}
use lib.ListN.{length, get_or}
use Rattle.std.specs.Prelude.{None}
use Rattle.answers.specs.Table.{Answer}
use Rattle.answers.proofs.Rules.{picked}
use Rattle.layout.specs.declared.rule.Rule.{Rule}
use Rattle.layout.specs.declared.rule.Rule.TheVariants.{A, B, C, D, E, F, G, H, I, J, K}
use Rattle.layout.specs.Ruled.{Ruled, passed, refused_by, unnamed}
use Rattle.layout.specs.Size.{fit_ruled}
use Rattle.rules.specs.Named.{rule_of, pack_ruled, rank, RefusedBy}
use Rattle.rules.specs.Rules.{pack_rules}
use Rattle.rules.proofs.Named.{order, first_of, pack-first, pack-early, pack-later}

-- ---- the order has each rule at its rank
in_order : (x : Rule) → (rank x < length order) × (get_or order (rank x) A ≡ x)
in_order A = (omega arith, refl)
in_order B = (omega arith, refl)
in_order C = (omega arith, refl)
in_order D = (omega arith, refl)
in_order E = (omega arith, refl)
in_order F = (omega arith, refl)
in_order G = (omega arith, refl)
in_order H = (omega arith, refl)
in_order I = (omega arith, refl)
in_order J = (omega arith, refl)
in_order K = (omega arith, refl)

-- so rules of one rank are one rule
pub same_rank : (x y : Rule) → rank x ≡ rank y → x ≡ y
same_rank x y e = sym (in_order x).1 ∙ ap (λ (n : ℕ). get_or order n A) e ∙ (in_order y).1

-- rules whose ranks go on by one from n on, to the last
abbrev Ranked : ℕ → List Rule → Type 0
Ranked n [] = n ≡ length order
Ranked n (x ∷ xs) = (rank x ≡ n) × Ranked (suc n) xs

module _ (bytes : List ℕ) where
  -- the rules below a rank pass
  abbrev Passing : ℕ → Type 0
  Passing n = (y : Rule) → rank y < n → (rule_of bytes y).number ≡ 0

  one_more : (x : Rule) {n : ℕ} → rank x ≡ n → (rule_of bytes x).number ≡ 0 → Passing n → Passing (suc n)
  one_more x {n} r z p y l =
      elim (dec_lt (rank y) n) [ yes h ↦ p y h | no h ↦ rw (same_rank y x (omega arith)) z ]

  -- what the first that refuses tells
  abbrev Tells : Ruled → Type 0
  Tells passed = (y : Rule) → (rule_of bytes y).number ≡ 0
  Tells (refused_by x a) = RefusedBy bytes x × (a ≡ rule_of bytes x)

  first-tells : {n : ℕ} (xs : List Rule) → Ranked n xs → Passing n → Tells (first_of (rule_of bytes) xs)
  first-tells [] r p = λ y. p y (omega (arith, (in_order y).0))
  first-tells (x ∷ xs) r p =
      picked Tells (eqb (rule_of bytes x).number 0) (first_of (rule_of bytes) xs) (refused_by x (rule_of bytes x))
      (λ t. first-tells xs r.1 (one_more x r.0 (eqb-true _ 0 t) p))
      (λ f. (record { before = rw r.0 p; refuses = eqb-false _ 0 f }, refl))

  pack-tells : Tells (pack_ruled bytes)
  pack-tells = rw (pack-first bytes) (first-tells order (refl, (refl, (refl, (refl, (refl, (refl, (refl, (refl, (refl, (refl, (refl, refl))))))))))) (λ y l. absurd (omega arith)))

  -- ---- the rule that is named is the first that refuses
  pub refused-by : {x : Rule} {a : Answer} → pack_ruled bytes ≡ refused_by x a → RefusedBy bytes x × (a ≡ rule_of bytes x)
  refused-by e = rw e at pack-tells

  -- and none is named only where all pass
  pub none-refuses : pack_ruled bytes ≡ passed → (x : Rule) → (rule_of bytes x).number ≡ 0
  none-refuses e = rw e at pack-tells

  -- there is one first that refuses
  one-first : {x y : Rule} → RefusedBy bytes x → RefusedBy bytes y → x ≡ y
  one-first {x} {y} p q =
      elim (dec_lt (rank x) (rank y)) [
        | yes h ↦ absurd (p.refuses (q.before x h))
        | no h ↦ elim (dec_lt (rank y) (rank x)) [ yes l ↦ absurd (q.refuses (p.before y l)) | no l ↦ same_rank x y (omega arith) ]
      ]

  -- the first that refuses is named
  pub by-refused : (x : Rule) → RefusedBy bytes x → pack_ruled bytes ≡ refused_by x (rule_of bytes x)
  by-refused x p = go (pack_ruled bytes) pack-tells
    where
      go : (u : Ruled) → Tells u → u ≡ refused_by x (rule_of bytes x)
      go passed t = absurd (p.refuses (t x))
      go (refused_by y a) t = rw (t.1, one-first t.0 p)

  -- where all pass none is
  pub all_pass : ((x : Rule) → (rule_of bytes x).number ≡ 0) → pack_ruled bytes ≡ passed
  all_pass z = go (pack_ruled bytes) pack-tells
    where
      go : (u : Ruled) → Tells u → u ≡ passed
      go passed t = refl
      go (refused_by y a) t = absurd (t.0.refuses (z y))

  -- ---- the same order without the names, as the reader has it that is lent no range
  pub pack-unnamed : unnamed (pack_ruled bytes) ≡ pack_rules None bytes
  pack-unnamed = go (fit_ruled bytes) refl
    where
      go : (u : Ruled) → fit_ruled bytes ≡ u → unnamed (pack_ruled bytes) ≡ pack_rules None bytes
      go passed e = rw (pack-later bytes e, e)
      go (refused_by x a) e =
          let r = refused-by (pack-early bytes e) in
          rw (pack-early bytes e, e, ne_eqb a.number 0 (λ z. r.0.refuses (rw r.1 at z)))
