-- `usable::slots_fit` meets its contract: the chain makes both tests of each slot.
use mathlib.Core.Path.{sym, ◌∙◌}
use mathlib.Core.Bool.{Bool, ◌&&◌, and-false}
use Prim.Native.Nat.{ℕ}
use native.Mathlib.Omega.{arith}
use borrow.Author.Rules.{rules}
use lib.ListN.{take}
use borrow.Author.Tests.{tests}
use Rattle.std.proofs.lemmas.Iterator.{YieldsList-from_slice, YieldsList-from_zip}
use Rattle.std.proofs.lemmas.Iterator.Search.{all_from_yields_List}
use Rattle.matrix.specs.Usable.{is_correlation, is_settled, first_all}
use Rattle.matrix.proofs.FirstAll.{too_few, chain-both}
use Rattle.matrix.proofs.usable.slots_fit.Goals as goal
use Rattle.matrix.proofs.usable.slots_fit.Goals.{then-correlations-count-via-then-correlations-count, then-correlations-count-via-else-correlations-count+then-states-count}

-- a slot by both its tests
abbrev slot_test : ℕ × ℕ → Bool
slot_test p = is_correlation p.0 && is_settled p.1

pub returns-then-correlations-count : goal.returns-then-correlations-count
returns-then-correlations-count c =
    let a = c.args in
    elim c.then-correlations-count.branch [
      | then-correlations-count-via-then-correlations-count w ↦ rw (too_few is_correlation a.count a.correlations.now w.if-correlations-count.true)
      | then-correlations-count-via-else-correlations-count+then-states-count w ↦
          rw (too_few is_settled a.count a.states.now w.if-states-count.true) (sym (and-false (first_all is_correlation a.count a.correlations.now)))
    ]

pub returns : goal.returns
returns c =
    let a = c.args in
    all_from_yields_List slot_test c.all.new.self _ _ c.all.ensures.ran
    (YieldsList-from_zip (YieldsList-from_slice (take a.count a.correlations.now) cc) (YieldsList-from_slice (take a.count a.states.now) cc))
    (λ x b q k. search (rules, tests))
    ∙ chain-both is_correlation is_settled a.count a.correlations.now a.states.now (omega arith) (omega arith)
