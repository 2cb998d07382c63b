-- `special::encode_imapb_special` meets its contract.
use mathlib.Core.Path.{◌≡◌, refl, ap, ◌∙◌}
use Prim.Native.Nat.{ℕ, ◌+◌, ◌-◌, ◌*◌, ◌/◌, ◌^◌, ◌≤◌, ◌<◌}
use native.Mathlib.Omega.{arith}
use borrow.Author.Rules.{rules}
use borrow.Author.Tests.{le-ltb, le-leb, lt-leb}
use lib.ListN.{length}
use lib.Pow.{pow_pos}
use Rattle.answers.specs.Lent.{over}
use Rattle.numbers.specs.Words.{bytes_of}
use Rattle.imapb.specs.declared.special.ImapbSpecial.{ImapbSpecial}
use Rattle.imapb.specs.Special.{payload, special_code}
use Rattle.imapb.specs.Tables.{length_rule}
use Rattle.imapb.proofs.Length.{is-supported, length-found, top-cut}
use Rattle.imapb.proofs.ReadBack.{special-fits}
use Rattle.imapb.proofs.special.encode_imapb_special.Goals as goal
use Rattle.imapb.proofs.special.encode_imapb_special.Goals.{After-family_of, After-top_code-unit, Else-unit-payload}

abbrev bytes-of : After-top_code-unit → ℕ
bytes-of c = c.in_ok-supported.supported.bytes

abbrev special-of : After-top_code-unit → ImapbSpecial
special-of c = c.args.special

-- the length is the one that was given
long : (c : After-top_code-unit) → bytes-of c ≡ c.args.length
long c = (length-found (length_rule c.args.length) c.args.length c.in_ok-supported.was c.new.ensures).1

-- one more than the largest payload
unit : (c : After-top_code-unit) → c.top_code-unit.result / 16 ≡ 2 ^ (8 * bytes-of c - 5)
unit c = ap (λ (n : ℕ). n / 16) c.top_code-unit.ensures ∙ top-cut (bytes-of c) 4 (8 * bytes-of c - 5) (omega (arith, c.in_ok-supported.supported.least))

small : (c : Else-unit-payload) → let u = (goal.at.family_of-requires c).After-top_code-unit in payload (bytes-of u) (special-of u) < 2 ^ (8 * bytes-of u - 5)
small c = omega (arith, unit (goal.at.family_of-requires c).After-top_code-unit, c.payload_of-payload.ensures)

abbrev code : After-family_of → ℕ
code c = c.family_of.result * (c.top_code-unit.result / 16) + c.payload_of-payload.result

code_is : (c : After-family_of) → let u = (goal.at.overflow_mul-family_of c).After-top_code-unit in code c ≡ special_code (bytes-of u) (special-of u)
code_is c = rw (c.family_of.ensures, unit (goal.at.overflow_mul-family_of c).After-top_code-unit, c.payload_of-payload.ensures)

fits : (c : After-family_of) → code c < 2 ^ 64
fits c =
    let u = (goal.at.overflow_mul-family_of c).After-top_code-unit in
    rw (code_is c) (special-fits (bytes-of u) (special-of u) u.in_ok-supported.supported.least (small (goal.at.overflow_mul-family_of c).Else-unit-payload) u.in_ok-supported.supported.most)

pub overflow_sub-result : goal.overflow_sub-result
overflow_sub-result c = let u = (goal.at.overflow_sub-result c).After-top_code-unit in rw (unit u) (pow_pos (8 * bytes-of u - 5))

pub returns-then-unit-payload : goal.returns-then-unit-payload
returns-then-unit-payload c =
    let u = (goal.at.returns-then-unit-payload c).After-top_code-unit in
    let n = u.in_ok-supported.supported in
    let room = length u.args.out.now in
    let p = c.payload_of-payload.ensures in
    let l : 2 ^ (8 * n.bytes - 5) ≤ payload n.bytes (special-of u) = omega (arith, unit u) in
    (rw (← (long u), is-supported n.bytes n.least n.most, le-ltb room n.bytes (omega (arith, long u)), le-leb (2 ^ (8 * n.bytes - 5)) (payload n.bytes (special-of u)) l, unit u, p), refl)

pub returns : goal.returns
returns c =
    let f = (goal.at.returns c).After-family_of in
    let u = (goal.at.returns c).After-top_code-unit in
    let n = u.in_ok-supported.supported in
    let out = u.args.out.now in
    rw (← (long u)) (
      rw (is-supported n.bytes n.least n.most, le-ltb (length out) n.bytes (omega (arith, long u)), lt-leb (2 ^ (8 * n.bytes - 5)) (payload n.bytes (special-of u)) (small (goal.at.returns c).Else-unit-payload)),
      c.put_code.ensures ∙ ap (λ (y : ℕ). over (bytes_of n.bytes y) out) (code_is f),
    )

pub family_of-requires : goal.family_of-requires
family_of-requires c = search rules

pub overflow_mul-family_of : goal.overflow_mul-family_of
overflow_mul-family_of c = omega (arith, fits (goal.at.overflow_mul-family_of c).After-family_of)
