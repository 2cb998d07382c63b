-- `slot::put_bytes` meets its contract: each turn puts the next byte behind those before it.
use mathlib.Core.Path.{◌≡◌, ap, ◌∙◌}
use Prim.Native.Nat.{ℕ, ◌+◌, ◌-◌}
use native.Mathlib.Numerals.{add-one}
use native.Mathlib.Omega.{arith}
use lib.ListN.{get_or}
use Rattle.text.proofs.Adding.{adds_then}
use Rattle.parts.proofs.slot.put_bytes.Goals as goal

pub loop-i-preserved : goal.loop-i-preserved
loop-i-preserved c =
    let p = c.loop-i in
    let a = c.args in
    let n = a.span.start in
    let k = p.i - n in
    let here : p.i ≡ n + k = omega arith in
    let more : p.i + 1 - n ≡ k + 1 = omega arith in
    let b : c.byte_at.result ≡ get_or a.bytes.now (n + k) 0 =
    c.byte_at.ensures ∙ ap (λ (i : ℕ). get_or a.bytes.now i 0) here in
    (rw (more, add-one k) (adds_then p.invariant.0 (rw b at c.hex.ensures)), omega (arith, p.invariant.1))
