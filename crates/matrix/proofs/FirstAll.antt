-- The first entries of a list: a list that is too short, and one that is long enough, whose entries are tested one by one.
-- Assumes nothing.
use mathlib.Core.Path.{◌≡◌, refl, sym, ◌∙◌}
use mathlib.Core.Bool.{Bool, true, false, ◌&&◌, and-false}
use mathlib.Core.List.{List, [], ◌∷◌}
use Prim.Native.Nat.{ℕ, zero, suc, ◌≤◌, ◌<◌}
use native.Mathlib.Omega.{arith}
use lib.ListN.{length, take, get_or}
use Rattle.std.specs.List.{list_all, zip}
use Rattle.answers.specs.Every.{every}
use Rattle.answers.proofs.Every.{every_front, every-both}
use Rattle.matrix.specs.Usable.{first_all}

pub too_few : (test : ℕ → Bool) (count : ℕ) (lent : List ℕ) → length lent < count → first_all test count lent ≡ false
too_few test zero lent h = absurd (omega arith)
too_few test (suc count) [] h = refl
too_few test (suc count) (x ∷ lent) h = rw (too_few test count lent (omega arith), and-false)

pub first-every : (test : ℕ → Bool) (count : ℕ) (lent : List ℕ) → count ≤ length lent
    → first_all test count lent ≡ every count (λ k. test (get_or lent k 0))
first-every test zero lent h = refl
first-every test (suc count) [] h = absurd (omega arith)
first-every test (suc count) (x ∷ lent) h =
    rw (first-every test count lent (omega arith)) (sym (every_front count (λ k. test (get_or (x ∷ lent) k 0))))

-- ---- as a chain makes the tests
pub first-chain : (test : ℕ → Bool) (count : ℕ) (lent : List ℕ) → count ≤ length lent
    → list_all test (take count lent) ≡ first_all test count lent
first-chain test zero lent h = refl
first-chain test (suc count) [] h = absurd (omega arith)
first-chain test (suc count) (x ∷ lent) h = rw (first-chain test count lent (omega arith))

-- two lists side by side
zip-every : (test : ℕ → ℕ → Bool) (count : ℕ) (cs ss : List ℕ) → count ≤ length cs → count ≤ length ss
    → list_all (λ (p : ℕ × ℕ). test p.0 p.1) (zip (take count cs) (take count ss)) ≡ every count (λ k. test (get_or cs k 0) (get_or ss k 0))
zip-every test zero cs ss h k = refl
zip-every test (suc count) [] ss h k = absurd (omega arith)
zip-every test (suc count) (c ∷ cs) [] h k = absurd (omega arith)
zip-every test (suc count) (c ∷ cs) (s ∷ ss) h k =
    rw (zip-every test count cs ss (omega arith) (omega arith)) (sym (every_front count (λ k. test (get_or (c ∷ cs) k 0) (get_or (s ∷ ss) k 0))))

pub chain-both : (a b : ℕ → Bool) (count : ℕ) (cs ss : List ℕ) → count ≤ length cs → count ≤ length ss
    → list_all (λ (p : ℕ × ℕ). a p.0 && b p.1) (zip (take count cs) (take count ss)) ≡ (first_all a count cs && first_all b count ss)
chain-both a b count cs ss h k =
    rw (first-every a count cs h, first-every b count ss k)
    (zip-every (λ x y. a x && b y) count cs ss h k ∙ every-both count (λ i. a (get_or cs i 0)) (λ i. b (get_or ss i 0)))
