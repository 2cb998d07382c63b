-- `fill::fill_deviations` meets its contract: each turn reads the next deviation, which is there, and stores it.
use Prim.Native.Nat.{ℕ}
use native.Mathlib.Nat.{zero-mul}
use native.Mathlib.Omega.{arith}
use Rattle.deviations.specs.Form.{form_listed}
use Rattle.reader.specs.Rows.{form_in}
use Rattle.answers.proofs.Tab.{tab-none, tab-more, tab-done}
use Rattle.reader.proofs.Filled.{turn-value, turn-never, DeviationTurn, deviation-turn}
use Rattle.reader.proofs.fill.fill_deviations.Goals as goal
use Rattle.reader.proofs.fill.fill_deviations.Goals.{In-loop-i, Start}

-- deviation i of the arguments
abbrev deviation : Start → ℕ → ℕ
deviation c = form_in c.args.bytes.now c.args.at c.args.control (form_listed c.args.form)

turn : (c : In-loop-i)
    → let a = c.args in
    DeviationTurn a.bytes.now a.at a.control (form_listed a.form) c.loop-i.i c.loop-i.next
turn c =
    deviation-turn c.args.bytes.now c.args.at c.args.control (form_listed c.args.form) c.requires.0 c.loop-i-test.true c.loop-i.invariant.1

pub loop-i-init : goal.loop-i-init
loop-i-init c =
    let s = (goal.at.loop-i-init c).Start in (tab-none s.args.count (deviation s) s.requires.1, omega (arith, zero-mul s.args.control.slen))

pub returns-in_default : goal.returns-in_default
returns-in_default c =
    absurd (turn-never (turn (goal.at.returns-in_default c).In-loop-i) c.deviation_of-number.ensures c.in_default.is)

pub loop-i-preserved : goal.loop-i-preserved
loop-i-preserved c =
    let w = (goal.at.loop-i-preserved c).In-loop-i in let s = (goal.at.loop-i-preserved c).Start in let l = w.loop-i in
    let x = turn-value (turn w) c.deviation_of-number.ensures c.in-Ok.is in
    (tab-more s.args.count (deviation s) l.invariant.0 w.loop-i-test.true x, (turn w).on)

pub returns : goal.returns
returns c =
    let s = (goal.at.returns c).Start in tab-done s.args.count (deviation s) c.loop-i.invariant.0 c.loop-i-test.false
