-- `ber::read_ber_strict` meets its contract.
use mathlib.Core.Path.{◌≡◌, sym, ◌∙◌}
use native.Mathlib.Omega.{arith}
use borrow.Author.Tests.{lt-ltb, le-ltb, eq-eqb, ne_eqb}
use lib.ListN.{get_or}
use Rattle.std.specs.Prelude.{Some}
use Rattle.numbers.specs.Ber.{ber_read, ber_read_strict}
use Rattle.numbers.proofs.Lengths.{ber-tells}
use Rattle.numbers.proofs.ber.read_ber_strict.Goals as goal
use Rattle.numbers.proofs.ber.read_ber_strict.Goals.{In_ok-length}

-- what was read
read : (c : In_ok-length) → ber_read c.args.bytes.now ≡ Some c.in_ok-length.length
read c = sym c.read_ber.ensures ∙ c.in_ok-length.was

pub returns-in_err-length : goal.returns-in_err-length
unfolding ber_read_strict
returns-in_err-length c = rw (c.from_residual.ensures, ← c.read_ber.ensures, c.in_err-length.was)

pub returns-then-length-lt2 : goal.returns-then-length-lt2
unfolding ber_read_strict
returns-then-length-lt2 c = rw (read (goal.at.returns-then-length-lt2 c).In_ok-length, le-ltb 1 c.in_ok-length.length.taken (omega arith))

pub returns-then-length-lt128 : goal.returns-then-length-lt128
unfolding ber_read_strict
returns-then-length-lt128 c =
    rw (read (goal.at.returns-then-length-lt128 c).In_ok-length, lt-ltb 1 c.in_ok-length.length.taken (omega arith), lt-ltb c.in_ok-length.length.value 128 (omega arith))

pub bounds-bytes-1 : goal.bounds-bytes-1
bounds-bytes-1 c =
    omega (arith, (ber-tells c.args.bytes.now (sym (read (goal.at.bounds-bytes-1 c).In_ok-length))).there)

pub returns-then-bytes-eq0 : goal.returns-then-bytes-eq0
unfolding ber_read_strict
returns-then-bytes-eq0 c =
    let l = c.args.bytes.now in
    rw (read (goal.at.returns-then-bytes-eq0 c).In_ok-length, lt-ltb 1 c.in_ok-length.length.taken (omega arith), le-ltb c.in_ok-length.length.value 128 (omega arith), eq-eqb (get_or l 1 0) 0 (omega arith))

pub returns : goal.returns
unfolding ber_read_strict
returns c =
    let l = c.args.bytes.now in
    rw (read (goal.at.returns c).In_ok-length, lt-ltb 1 c.in_ok-length.length.taken (omega arith), le-ltb c.in_ok-length.length.value 128 (omega arith), ne_eqb (get_or l 1 0) 0 (λ e. omega arith))
