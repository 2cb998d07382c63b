-- `closest_to` meets its contract: its three arms are those of `closest`, and a power of two that is no 1 has a half.
use mathlib.Core.Path.{◌≡◌, ap, ◌∙◌}
use Prim.Native.Nat.{Ordering}
use Prim.Native.Nat.{ℕ, ◌*◌, ◌/◌, ◌-◌, ◌^◌, ◌≤◌, ◌<◌}
use native.Mathlib.Nat.{div-lt_iff_lt-mul, pow-succ'}
use native.Mathlib.Omega.{arith}
use lib.Pow.{pow_pos}
use lib.Ieee.Nearest.{closest}
use Rattle.numbers.proofs.Closest.{closest-by}
use Rattle.numbers.proofs.conversions.closest_to.Goals as goal
use Rattle.numbers.proofs.conversions.closest_to.Goals.{After-power-unit}

-- the unit is twice its half
even : (c u : ℕ) → 1 ≤ c → u ≡ 2 ^ c → u ≡ 2 * 2 ^ (c - 1)
even c u h e = e ∙ ap (λ (x : ℕ). 2 ^ x) (omega arith) ∙ pow-succ' 2 (c - 1)

unit-is : (c : After-power-unit) → c.power-unit.result ≡ 2 * 2 ^ (c.args.c - 1)
unit-is c = even c.args.c c.power-unit.result c.requires.0 c.power-unit.ensures

some : (c : After-power-unit) → 2 ≤ c.power-unit.result
some c = omega (arith, unit-is c, pow_pos (c.args.c - 1))

small : (c : After-power-unit) → c.args.m / c.power-unit.result < 2 ^ 63
small c = let h : 0 < c.power-unit.result = omega (arith, some c) in (div-lt_iff_lt-mul h).1 (omega (arith, some c))

pub overflow_add-result : goal.overflow_add-result
overflow_add-result c = omega (arith, small (goal.at.overflow_add-result c).After-power-unit)

pub returns-then-rest-half-2 : goal.returns-then-rest-half-2
returns-then-rest-half-2 c =
    closest-by Ordering.eq c.args.m c.power-unit.result (omega (arith, unit-is (goal.at.returns-then-rest-half-2 c).After-power-unit))
    ∙ ap (λ (u : ℕ). closest c.args.m u) c.power-unit.ensures
