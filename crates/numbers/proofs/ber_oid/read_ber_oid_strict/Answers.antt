-- `ber_oid::read_ber_oid_strict` meets its contract.
use mathlib.Core.Path.{◌≡◌, refl, sym}
use native.Mathlib.Omega.{arith}
use borrow.Author.Tests.{eq-eqb, ne_eqb}
use lib.Dec.{eqb}
use lib.ListN.{get_or}
use Rattle.std.specs.Prelude.{Option, None}
use Rattle.answers.proofs.Rules.{picked}
use Rattle.numbers.specs.declared.ber_oid.BerOid.{BerOid}
use Rattle.numbers.specs.BerOid.{oid_read, oid_read_strict}
use Rattle.numbers.proofs.BerOid.{none_is}
use Rattle.numbers.proofs.ber_oid.read_ber_oid_strict.Goals as goal

pub returns-then-bytes-eq0 : goal.returns-then-bytes-eq0
unfolding oid_read_strict
returns-then-bytes-eq0 c =
    let l = c.args.bytes.now in
    picked (λ (r : Option BerOid). None ≡ r) (eqb (get_or l 0 0) 128) None (oid_read l) (λ _. refl) (λ _. sym (none_is l (λ a b h. omega arith)))

pub returns-then-bytes : goal.returns-then-bytes
unfolding oid_read_strict
returns-then-bytes c = rw (eq-eqb (get_or c.args.bytes.now 0 0) 128 (omega arith))

pub returns : goal.returns
unfolding oid_read_strict
returns c =
    let a = c.args in
    rw (ne_eqb (get_or a.bytes.now 0 0) 128 (λ e. omega arith)) c.read_ber_oid.ensures
