-- `ber_oid::write_ber_oid` meets its contract. The invariant: with the digits that are left, the bytes are what they
-- were to be.
use mathlib.Core.Path.{◌∙◌}
use native.Mathlib.Omega.{arith}
use borrow.Author.Tests.{le-ltb}
use lib.ListN.{length}
use Rattle.numbers.specs.BerOid.{oid_length}
use Rattle.numbers.proofs.Digits.{back_done}
use Rattle.numbers.proofs.BerOid.{stored}
use Rattle.numbers.proofs.ber_oid.write_ber_oid.Goals as goal

pub returns : goal.returns
returns c =
    let a = c.args in
    let e = c.ber_oid_len-needed.ensures in (
      rw (e, le-ltb (length a.out.now) (oid_length a.value) (omega arith)),
      rw e at (back_done c.loop-i.invariant (omega arith)) ∙ stored a.value (omega arith) a.out.now (omega arith),
    )
