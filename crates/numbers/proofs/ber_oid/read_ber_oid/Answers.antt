-- `ber_oid::read_ber_oid` meets its contract. The invariant: the bytes passed have their top bit set and spell the
-- value.
use mathlib.Core.Path.{◌≡◌, sym}
use mathlib.Core.List.{List}
use Prim.Native.Nat.{ℕ, suc, ◌+◌, ◌*◌, ◌%◌, ◌≤◌}
use native.Mathlib.Omega.{arith}
use lib.ListN.{drop}
use Rattle.numbers.specs.BerOid.{continued, oid_value}
use Rattle.numbers.proofs.Digits.{spelt-more, spelt-take-le}
use Rattle.numbers.proofs.BerOid.{continued-more, continued-last, read_is, none_is}
use Rattle.numbers.proofs.ber_oid.read_ber_oid.Goals as goal
use Rattle.numbers.proofs.ber_oid.read_ber_oid.Goals.{After-wide-b}

abbrev bytes_of : After-wide-b → List ℕ
bytes_of c = c.args.bytes.now

abbrev read_of : After-wide-b → ℕ
read_of c = c.loop-i.i

-- the value with the byte that was read
spelled : (c : After-wide-b)
    → c.loop-i.value * 128 + c.wide-b.result % 128 ≡ oid_value (read_of c + 1) (bytes_of c)
spelled c = omega (arith, spelt-more 128 0 (bytes_of c) (read_of c) (omega arith))

-- where its top bit is set
more : (c : After-wide-b) → 128 ≤ c.wide-b.result
    → continued (bytes_of c) ≡ read_of c + 1 + continued (drop (read_of c + 1) (bytes_of c))
more c h = continued-more (bytes_of c) (read_of c) (omega arith) (omega arith) (omega arith)

pub returns-then-value-gt4294967295 : goal.returns-then-value-gt4294967295
returns-then-value-gt4294967295 c =
    let w = (goal.at.returns-then-value-gt4294967295 c).After-wide-b in let least = spelt-take-le 128 (omega arith) 0 {j = read_of w + 1} {k = suc (continued (bytes_of w))} (bytes_of w) (omega arith) in
    sym (none_is (bytes_of w) (λ a b h. omega (arith, spelled w)))

pub returns-then-b-lt128 : goal.returns-then-b-lt128
returns-then-b-lt128 c =
    let w = (goal.at.returns-then-b-lt128 c).After-wide-b in let last = continued-last (bytes_of w) (read_of w) (omega arith) (omega arith) (omega arith) in
    let e : suc (continued (bytes_of w)) ≡ read_of w + 1 = omega arith in
    rw (spelled w) (sym (read_is (bytes_of w) e (omega arith) (omega arith) (omega (arith, spelled w))))

pub returns-then-i-ge5 : goal.returns-then-i-ge5
returns-then-i-ge5 c =
    let w = (goal.at.returns-then-i-ge5 c).After-wide-b in sym (none_is (bytes_of w) (λ a b h. omega (arith, more w (omega arith))))

pub returns : goal.returns
returns c = sym (none_is _ (λ a b h. omega arith))
