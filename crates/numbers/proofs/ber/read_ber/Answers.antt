-- `ber::read_ber` meets its contract.
use mathlib.Core.Path.{◌≡◌, sym, ap}
use Prim.Native.Nat.{ℕ, ◌+◌, ◌-◌, ◌%◌}
use native.Mathlib.Numerals.{add-one}
use native.Mathlib.Omega.{arith}
use lib.ListN.{get_or}
use Rattle.numbers.proofs.Lengths.{short-is, long-is, no_length}
use Rattle.numbers.proofs.ber.read_ber.Goals as goal

pub returns-then-bytes-eq0 : goal.returns-then-bytes-eq0
returns-then-bytes-eq0 c = no_length c.args.bytes.now (λ h. omega arith) (λ a b d. omega arith)

pub returns-then-first-lt128 : goal.returns-then-first-lt128
returns-then-first-lt128 c =
    rw c.wide-first.ensures (short-is c.args.bytes.now (omega arith) (omega arith))

pub returns-then-k-eq0 : goal.returns-then-k-eq0
returns-then-k-eq0 c = no_length _ (λ h. omega arith) (λ a b d. omega arith)

pub returns-then-k-gt8 : goal.returns-then-k-gt8
returns-then-k-gt8 c = no_length _ (λ h. omega arith) (λ a b d. omega arith)

pub returns-then-bytes-k : goal.returns-then-bytes-k
returns-then-bytes-k c = no_length _ (λ h. omega arith) (λ a b d. omega arith)

pub returns : goal.returns
returns c =
    let k = c.wide-first.result % 128 in
    let at : get_or c.args.bytes.now 0 0 ≡ c.wide-first.result = sym c.wide-first.ensures in
    let e : k + 1 - 1 ≡ k = omega arith in
    rw (c.read_be.ensures, e, add-one)
    (long-is c.args.bytes.now (omega arith) (ap (λ (n : ℕ). n % 128) at) (omega arith) (omega arith) (omega arith))
