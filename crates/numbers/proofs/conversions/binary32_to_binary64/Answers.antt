-- `binary32_to_binary64` meets its contract: the sign adds its bit. Assumes nothing.
use mathlib.Core.Path.{sym, ap, ◌∙◌}
use Prim.Native.Nat.{ℕ, ◌+◌, ◌-◌, ◌^◌}
use native.Mathlib.Nat.{add-sub_of_le}
use native.Mathlib.Omega.{arith}
use lib.Ieee.{binary32, binary64}
use Rattle.numbers.specs.Conversions.{converted}
use Rattle.numbers.proofs.Patterns.{signed}
use Rattle.numbers.proofs.conversions.binary32_to_binary64.Goals as goal

pub returns-else-wide-lt2147483648 : goal.returns-else-wide-lt2147483648
returns-else-wide-lt2147483648 c =
    let b = c.args.bits in
    ap (λ (x : ℕ). 2 ^ 63 + x) c.widen_size-else-wide-lt2147483648.ensures.0
    ∙ sym (signed binary32 binary64 (b - 2 ^ 31) (omega arith))
    ∙ ap (λ (x : ℕ). converted binary32 binary64 x) (add-sub_of_le c.if-wide-lt2147483648.false)
