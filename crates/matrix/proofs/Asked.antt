-- The parts of the question, in the order in which they are asked: where the counts fit, the slots are M.
-- Assumes nothing.
use mathlib.Core.Path.{◌≡◌, sym, ◌∙◌}
use mathlib.Core.Bool.{Bool, true, false, ◌&&◌, ◌||◌, and-eq-true_iff, and-true, and-false}
use mathlib.Core.List.{List}
use Prim.Native.Nat.{ℕ}
use borrow.Author.Tests.{eqb-true, eq-eqb, ne_eqb}
use lib.Dec.{eqb, leb}
use Rattle.layout.specs.declared.pack.SdccFlp.{SdccFlp}
use Rattle.layout.specs.Size.{max_rows}
use Rattle.layout.specs.Triangle.{slots_of}
use Rattle.matrix.specs.Usable.{counts_fit, is_deviation, is_correlation, is_settled, first_all, is_usable}

module _ (p : SdccFlp) (count : ℕ) (ds cs ss : List ℕ) where
  abbrev rows : Bool
  rows = leb p.matrix_size max_rows && (eqb p.deviations 0 || eqb p.deviations p.matrix_size)

  pub counts-not : counts_fit p ≡ false → is_usable p count ds cs ss ≡ false
  counts-not e = rw e

  module _ (fit : counts_fit p ≡ true) where
    pub slots-are : p.slots ≡ slots_of p.matrix_size
    slots-are = eqb-true p.slots (slots_of p.matrix_size) ((and-eq-true_iff rows (eqb p.slots (slots_of p.matrix_size))).0 fit).1

    -- as many states as slots, or no
    pub states-not : (count ≡ p.slots → ⊥) → is_usable p count ds cs ss ≡ false
    states-not n =
        rw (ne_eqb count (slots_of p.matrix_size) (λ e. n (e ∙ sym slots-are)))
        (and-false (counts_fit p && first_all is_deviation p.deviations ds && first_all is_correlation p.slots cs))

    pub deviations-not : first_all is_deviation p.deviations ds ≡ false → is_usable p count ds cs ss ≡ false
    deviations-not e = rw (fit, e)

    -- then the slots decide
    pub by_slots : count ≡ p.slots → first_all is_deviation p.deviations ds ≡ true
        → is_usable p count ds cs ss ≡ (first_all is_correlation p.slots cs && first_all is_settled p.slots ss)
    by_slots e d = rw (fit, d, eq-eqb count (slots_of p.matrix_size) (e ∙ slots-are), e)

    -- where the slots pass, the deviations decide
    pub by-deviations : count ≡ p.slots → first_all is_correlation p.slots cs ≡ true → first_all is_settled count ss ≡ true
        → is_usable p count ds cs ss ≡ first_all is_deviation p.deviations ds
    by-deviations e c s =
        rw (fit, c, eq-eqb count (slots_of p.matrix_size) (e ∙ slots-are), s)
        (and-true (first_all is_deviation p.deviations ds && true) ∙ and-true (first_all is_deviation p.deviations ds))

  -- a state that is not settled
  pub settled-not : first_all is_settled count ss ≡ false → is_usable p count ds cs ss ≡ false
  settled-not e =
      rw (e, and-false (eqb count (slots_of p.matrix_size)))
      (and-false (counts_fit p && first_all is_deviation p.deviations ds && first_all is_correlation p.slots cs))
