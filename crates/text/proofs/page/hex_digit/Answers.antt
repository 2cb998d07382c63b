-- `page::hex_digit` meets its contract: 64 bits have sixteen digits.
use mathlib.Core.Path.{◌≡◌}
use Prim.Native.Nat.{◌*◌, ◌/◌, ◌^◌}
use native.Mathlib.Nat.{div-eq_of_lt}
use native.Mathlib.Omega.{arith}
use lib.Pow.{pow_mono}
use Rattle.text.proofs.page.hex_digit.Goals as goal

pub returns-else-behind-lt16 : goal.returns-else-behind-lt16
returns-else-behind-lt16 c =
    let a = c.args in
    let e : a.value / 2 ^ (4 * a.behind) ≡ 0 =
    div-eq_of_lt (omega (arith, pow_mono {i = 64} {j = 4 * a.behind} (omega arith))) in
    rw e
