-- `binary64_to_binary32` meets its contract: the sign adds its bit. Assumes nothing.
use mathlib.Core.Path.{sym, ap, ◌∙◌}
use Prim.Native.Nat.{ℕ, ◌+◌, ◌-◌, ◌^◌}
use native.Mathlib.Nat.{add-sub_of_le}
use native.Mathlib.Omega.{arith}
use lib.Ieee.{binary32, binary64}
use Rattle.numbers.specs.Conversions.{converted}
use Rattle.numbers.proofs.Patterns.{signed}
use Rattle.numbers.proofs.conversions.binary64_to_binary32.Goals as goal

pub returns-else-bits-lt9223372036854775808 : goal.returns-else-bits-lt9223372036854775808
returns-else-bits-lt9223372036854775808 c =
    let b = c.args.bits in
    ap (λ (x : ℕ). 2 ^ 31 + x) c.narrow_size-else-bits-lt9223372036854775808.ensures.0
    ∙ sym (signed binary64 binary32 (b - 2 ^ 63) (omega arith))
    ∙ ap (λ (x : ℕ). converted binary64 binary32 x) (add-sub_of_le c.if-bits-lt9223372036854775808.false)
