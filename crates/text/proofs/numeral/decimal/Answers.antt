-- `numeral::decimal` meets its contract. The invariant: what is left of the line, behind the value, reads as all of it.
use mathlib.Core.Path.{◌≡◌, sym, ◌∙◌}
use Prim.Native.Nat.{◌+◌, ◌*◌}
use native.Mathlib.Omega.{arith}
use Rattle.std.specs.Prelude.{Some}
use Rattle.text.specs.Numeral.{digit_at, in_decimal}
use Rattle.text.proofs.Line.{reading-first, decimal-within, reading-over, reading-more}
use Rattle.text.proofs.numeral.decimal.Goals as goal
use Rattle.text.proofs.numeral.decimal.Goals.{In-Some}

-- the digit of a turn
digit_is : (c : In-Some) → in_decimal (digit_at c.args.line.now c.loop-digit.next) ≡ Some c.in-Some.digit
digit_is c = sym c.decimal_digit_at-in-loop-digit.ensures ∙ c.in-Some.is

pub overflow_add-next : goal.overflow_add-next
overflow_add-next c =
    let a = c.args in
    omega (arith, decimal-within a.line.now a.at (sym c.decimal_digit_at.ensures ∙ c.in_ok-value.was))

pub loop-digit-init : goal.loop-digit-init
loop-digit-init c = reading-first (sym c.decimal_digit_at.ensures ∙ c.in_ok-value.was)

pub returns-in_err-checked_mul : goal.returns-in_err-checked_mul
returns-in_err-checked_mul c =
    c.from_residual-in_err-checked_mul.ensures
    ∙ reading-over c.loop-digit.invariant (digit_is (goal.at.returns-in_err-checked_mul c).In-Some) (omega (arith, c.in_err-checked_mul.ensures))

pub returns-in_err-value-2 : goal.returns-in_err-value-2
returns-in_err-value-2 c =
    c.from_residual-in_err-value-2.ensures
    ∙ reading-over c.loop-digit.invariant (digit_is (goal.at.returns-in_err-value-2 c).In-Some)
    (omega (arith, c.in_ok-checked_mul.ensures, c.in_err-value-2.ensures))

pub overflow_add-next-in-Some : goal.overflow_add-next-in-Some
overflow_add-next-in-Some c =
    omega (arith, decimal-within c.args.line.now c.loop-digit.next (digit_is (goal.at.overflow_add-next-in-Some c).In-Some))

pub loop-digit-smaller : goal.loop-digit-smaller
loop-digit-smaller c =
    omega (arith, decimal-within c.args.line.now c.loop-digit.next (digit_is (goal.at.loop-digit-smaller c).In-Some))

pub loop-digit-preserved : goal.loop-digit-preserved
loop-digit-preserved c =
    let e : c.in_ok-value-2.value ≡ c.loop-digit.value * 10 + c.in-Some.digit = omega (arith, c.in_ok-checked_mul.ensures, c.in_ok-value-2.ensures) in
    rw e
    (reading-more c.loop-digit.invariant (digit_is (goal.at.loop-digit-preserved c).In-Some) (omega (arith, c.in_ok-value-2.ensures)))
