-- `states::states_of` meets its contract: each turn stores the next state.
use mathlib.Core.Path.{◌≡◌, ap}
use Prim.Native.Nat.{ℕ, ◌%◌, ◌<◌, ◌≤◌}
use native.Mathlib.Omega.{arith}
use lib.ListN.{length, take}
use lib.Seq.{get_or-take, length-take-le}
use Rattle.answers.proofs.Tab.{tab-none, tab-more, tab-done}
use Rattle.requests.proofs.states.states_of.Goals as goal
use Rattle.requests.proofs.states.states_of.Goals.{After-within-count}

-- there are as many words
long : (c : After-within-count) → length (take c.within-count.result c.args.words.now) ≡ c.within-count.result
long c = length-take-le c.within-count.result c.args.words.now (omega (arith, c.within-count.ensures.value))

pub loop-i-init : goal.loop-i-init
loop-i-init c = tab-none c.within-count.result _ (omega (arith, c.within-count.ensures.value))

pub loop-i-preserved : goal.loop-i-preserved
loop-i-preserved c =
    let m = (goal.at.loop-i-preserved c).After-within-count in
    let h : c.loop-i.i < m.within-count.result = omega (arith, long m) in
    tab-more _ _ c.loop-i.invariant h (ap (λ (n : ℕ). n % 256) (get_or-take m.within-count.result m.args.words.now c.loop-i.i 0 h))

pub returns-clause-states_after : goal.returns-clause-states_after
returns-clause-states_after c =
    let m = (goal.at.returns-clause-states_after c).After-within-count in
    let e = m.within-count.ensures.value in
    let past : m.within-count.result ≤ c.loop-i.i = omega (arith, long m) in
    rw e at (tab-done _ _ c.loop-i.invariant past)
