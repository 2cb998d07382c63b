-- `words::write_le` meets its contract. The invariant: the first bytes are stored, and what is left is above them.
use mathlib.Core.Path.{sym, ap, ◌∙◌}
use Prim.Native.Nat.{ℕ, ◌/◌, ◌%◌, ◌<◌}
use native.Mathlib.Nat.{pow-zero, div-one}
use native.Mathlib.Omega.{arith}
use lib.ListN.{length}
use Rattle.answers.proofs.Lent.{front-none, front-more}
use Rattle.numbers.proofs.Low.{length-low, low-at, low-left}
use Rattle.numbers.proofs.words.write_le.Goals as goal

pub loop-byte-init : goal.loop-byte-init
loop-byte-init c = (front-none (omega (arith, length-low (length c.args.part.now) c.args.value)), rw (pow-zero, div-one))

pub loop-byte-preserved : goal.loop-byte-preserved
loop-byte-preserved c =
    let l = c.loop-byte in
    let k = length c.args.part.now in
    let v = c.args.value in
    let h : l.byte-index < k = omega (arith, l.invariant.0.long) in (
      front-more l.invariant.0 (rw (length-low k v) h) (ap (λ (x : ℕ). x % 256) l.invariant.1 ∙ sym (low-at k v l.byte-index h)),
      ap (λ (x : ℕ). x / 256) l.invariant.1 ∙ sym (low-left v l.byte-index),
    )
