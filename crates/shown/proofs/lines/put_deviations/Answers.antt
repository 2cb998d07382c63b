-- `lines::put_deviations` meets its contract: each turn puts the next line behind those before it.
use Prim.Native.Nat.{◌<◌}
use native.Mathlib.Numerals.{add-one}
use native.Mathlib.Omega.{arith}
use lib.Seq.{length-take-le, get_or-take}
use Rattle.text.proofs.Adding.{adds_then}
use Rattle.shown.proofs.lines.put_deviations.Goals as goal

pub loop-i-preserved : goal.loop-i-preserved
loop-i-preserved c =
    let ds = c.args.deviations.now in
    let end = c.within-end in
    let i = c.loop-i.i in
    let long = length-take-le end.result ds (omega (arith, end.ensures.value)) in
    let h : i < end.result = omega (arith, long) in
    rw add-one
    (adds_then c.loop-i.invariant (rw (c.deviation.ensures, get_or-take end.result ds i 0 h) at c.put_reply.ensures))
