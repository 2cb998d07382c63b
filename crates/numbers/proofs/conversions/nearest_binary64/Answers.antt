-- `nearest_binary64` meets its contract. Assumes nothing.
use mathlib.Core.Path.{◌≡◌, refl, sym, ap, ◌∙◌}
use Prim.Native.Nat.{ℕ, ◌+◌, ◌-◌, ◌*◌, ◌^◌, ◌<◌}
use native.Mathlib.Omega.{arith}
use borrow.Author.Rules.{rules}
use lib.Count.{count_leading_zeros}
use lib.Ieee.{of_int, to_bits}
use Rattle.numbers.specs.Conversions.{nearest_bits}
use Rattle.numbers.proofs.Nearest.{nearest-is}
use Rattle.numbers.proofs.conversions.nearest_binary64.Goals as goal
use Rattle.numbers.proofs.conversions.nearest_binary64.Goals.{Else-n-eq0}

none : 0 ≡ nearest_bits 0
unfolding nearest_bits of_int to_bits
none = refl

some : (c : Else-n-eq0) → 0 < c.args.n
some c = omega arith

pub returns-then-n-eq0 : goal.returns-then-n-eq0
returns-then-n-eq0 c = none ∙ ap nearest_bits (sym c.if-n-eq0.true)

pub returns : goal.returns
returns c =
    let n = c.args.n in
    ap (λ (q : ℕ). (1085 - count_leading_zeros 64 n) * 2 ^ 52 + q) c.closest_to.ensures ∙ sym (nearest-is n (some (goal.at.returns c).Else-n-eq0) (search rules))
