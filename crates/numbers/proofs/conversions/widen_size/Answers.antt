-- `widen_size` meets its contract: each arm is one of `Widen`, and a subnormal one of `Nearest`. Assumes nothing.
use mathlib.Core.Path.{◌≡◌, sym, ap, ◌∙◌}
use Prim.Native.Nat.{ℕ, ◌+◌, ◌*◌, ◌^◌}
use native.Mathlib.Omega.{arith}
use lib.Ieee.{binary32, binary64}
use Rattle.numbers.specs.Conversions.{converted}
use Rattle.numbers.proofs.Widen.{from_zero, from-infinity, from-normal, from-nan}
use Rattle.numbers.proofs.Nearest.{subnormal-wide, nearest-lt}
use Rattle.numbers.proofs.conversions.widen_size.Goals as goal
use Rattle.numbers.proofs.conversions.widen_size.Goals.{After-nearest_binary64}

wide : (c : After-nearest_binary64) → c.nearest_binary64.result ≡ converted binary32 binary64 c.args.bits + 149 * 2 ^ 52
wide c = c.nearest_binary64.ensures ∙ subnormal-wide c.args.bits (omega arith) (omega arith)

pub returns-then-bits-gt2139095040 : goal.returns-then-bits-gt2139095040
returns-then-bits-gt2139095040 c = (from-nan c.args.bits c.requires c.if-bits-gt2139095040.true, omega arith)

pub returns-then-bits-eq2139095040 : goal.returns-then-bits-eq2139095040
returns-then-bits-eq2139095040 c = (from-infinity ∙ ap (λ (x : ℕ). converted binary32 binary64 x) (sym c.if-bits-eq2139095040.true), omega arith)

pub returns-then-bits-ge8388608 : goal.returns-then-bits-ge8388608
returns-then-bits-ge8388608 c = (from-normal c.args.bits c.requires c.if-bits-ge8388608.true (omega arith), omega arith)

pub returns-then-bits-eq0 : goal.returns-then-bits-eq0
returns-then-bits-eq0 c = (from_zero ∙ ap (λ (x : ℕ). converted binary32 binary64 x) (sym c.if-bits-eq0.true), omega arith)

pub overflow_sub-result : goal.overflow_sub-result
overflow_sub-result c = omega (arith, wide (goal.at.overflow_sub-result c).After-nearest_binary64)

pub returns : goal.returns
returns c = let b = c.args.bits in omega (arith, wide (goal.at.returns c).After-nearest_binary64, subnormal-wide b (omega arith) (omega arith), nearest-lt b (omega arith) (omega arith))
