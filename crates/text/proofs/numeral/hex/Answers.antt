-- `numeral::hex` meets its contract. The invariant: what is left of the line, behind the value, reads as all of it.
use mathlib.Core.Path.{◌≡◌, sym, ◌∙◌}
use Prim.Native.Nat.{◌+◌, ◌-◌, suc}
use native.Mathlib.Omega.{arith}
use lib.ListN.{get_or}
use Rattle.text.proofs.Line.{digit-within, digit-small, hex-more, hex-none}
use Rattle.text.proofs.numeral.hex.Goals as goal

pub returns-in_err-digit : goal.returns-in_err-digit
returns-in_err-digit c =
    let a = c.args in
    let p = c.loop-k in
    let left = a.digits - (p.k + 1) in
    let e : a.digits - p.k ≡ suc left = omega arith in
    c.from_residual.ensures
    ∙ sym (hex-none a.line.now (a.at + p.k) p.value left (sym c.digit_at.ensures ∙ c.in_err-digit.was))
    ∙ rw e at p.invariant.1

pub overflow_add-value : goal.overflow_add-value
overflow_add-value c =
    let a = c.args in
    omega (arith, digit-small (get_or a.line.now (a.at + c.loop-k.k) 0) (sym c.digit_at.ensures ∙ c.in_ok-digit.was))

pub loop-k-preserved : goal.loop-k-preserved
loop-k-preserved c =
    let a = c.args in
    let p = c.loop-k in
    let left = a.digits - (p.k + 1) in
    let e : a.digits - p.k ≡ suc left = omega arith in
    let d = sym c.digit_at.ensures ∙ c.in_ok-digit.was in
    let next : a.at + (p.k + 1) ≡ a.at + p.k + 1 = omega arith in (
      omega (arith, digit-within a.line.now (a.at + p.k) d),
      rw next (sym (hex-more a.line.now (a.at + p.k) p.value left d) ∙ rw e at p.invariant.1),
    )
