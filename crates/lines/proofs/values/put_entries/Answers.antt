-- `values::put_entries` meets its contract: each turn puts the next number.
use mathlib.Core.Path.{◌≡◌}
use Prim.Native.Nat.{suc}
use native.Mathlib.Numerals.{add-one}
use lib.ListN.{take, drop, get_or, drop_of_length-le}
use lib.Seq.{drop-cons}
use Rattle.std.proofs.lemmas.List.{take_min}
use Rattle.text.proofs.Adding.{owes-more, owes-done}
use Rattle.lines.proofs.Entries.{kinds-none, kinds-one}
use Rattle.lines.proofs.values.put_entries.Goals as goal

pub loop-value-preserved : goal.loop-value-preserved
loop-value-preserved c =
    let a = c.args in
    let p = c.loop-value in
    let items = take c.within-most.result a.values in
    let i = p.value-index in
    rw add-one
    (owes-more (rw (drop-cons items i 0 c.loop-value-test.true, kinds-one a.floats (get_or items i 0) (drop (suc i) items)) at p.invariant)
    c.put_value.ensures)

pub returns : goal.returns
returns c =
    let a = c.args in
    let m = c.within-most in
    let items = take m.result a.values in
    let p = c.loop-value in
    let e : items ≡ take a.count a.values = rw m.ensures.value (take_min a.count a.values) in
    rw (← e) (owes-done (rw (drop_of_length-le items {i = p.value-index} c.loop-value-test.false, kinds-none a.floats) at p.invariant))
