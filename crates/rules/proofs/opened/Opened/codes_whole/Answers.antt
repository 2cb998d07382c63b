-- `Opened::codes_whole` meets its contract: rules i), j) and k), each behind the one before it.
use mathlib.Core.List.{List}
use mathlib.Core.Path.{◌≡◌, sym, ap, ◌∙◌}
use Prim.Native.Nat.{ℕ, min, ◌-◌}
use native.Mathlib.Omega.{arith}
use lib.ListN.{length}
use Rattle.std.specs.Prelude.{Result, ⊤}
use Rattle.std.proofs.lemmas.Result.{err_from_is_err_and}
use Rattle.answers.specs.Listed.{checked}
use Rattle.answers.specs.Table.{Answer}
use Rattle.layout.specs.declared.rule.Rule.TheVariants.{I, J, K}
use Rattle.layout.specs.Ruled.{Ruled, passed, named}
use Rattle.layout.specs.Size.{max_slots}
use Rattle.layout.specs.Triangle.{slots_of}
use Rattle.layout.proofs.RowByRow.{bounded-same}
use Rattle.layout.proofs.Ruled.{stops-by, goes_by}
use Rattle.elements.specs.Elements.{codes_at, present_count, present_before}
use Rattle.elements.specs.declared.head.Places.{Places}
use Rattle.rules.proofs.Decided.{by-first-code}
use Rattle.rules.proofs.Held.{few-codes}
use Rattle.rules.specs.Rules.{codes_rule, rule_i, rule_j, rule_k}
use Rattle.rules.specs.Turns.{turns_rule}
use Rattle.elements.specs.Numbers.{refusal_of}
use Rattle.elements.specs.Slots.{present_read}
use Rattle.elements.specs.Held.{Placed}
use Rattle.rules.proofs.opened.Opened.codes_whole.Goals as goal
use Rattle.answers.specs.declared.Refusal.{Refusal}

module _ {bytes : List ℕ} {p : Places} (placed : Placed bytes p) where
  abbrev i : Answer
  i = rule_i bytes p.head

  abbrev j : Answer
  j = rule_j bytes p.head

  abbrev behind-j : Ruled
  behind-j = named K (rule_k bytes p.head) passed

  abbrev behind-i : Ruled
  behind-i = named J j behind-j

  -- the places, and the count of a matrix within the limits, are those of the head
  codes_at_is : p.codes ≡ codes_at p.head
  codes_at_is = ap (λ (x : Places). x.codes) placed.is

  module _ {n : ℕ} (told : n ≡ present_before bytes p.head.body p.head.control (min (slots_of p.head.n) max_slots)) where
    counted : n ≡ present_count bytes p.head
    counted = rw (bounded-same p.head.n placed.within.rows) at told

    -- what the two checks say, by name
    is-i : {u : Ruled} (x : Result ⊤ Refusal) (after : ℕ) → after ≡ length bytes - p.codes
        → checked x ≡ codes_rule p.head.control n after
        → u ≡ named I (checked x) passed
        → u ≡ named I i passed
    is-i x m after is by = rw (is, after, counted, codes_at_is) at by

    is-j : {u : Ruled} (x : Result ⊤ Refusal)
        → checked x ≡ turns_rule (refusal_of (present_read bytes p.codes p.head.control)) n p.head.control.clen (length bytes - p.codes)
        → u ≡ named J (checked x) passed
        → u ≡ named J j passed
    is-j x is by = rw (is, counted, codes_at_is, ← by-first-code bytes p.head) at by

pub codes_there-requires : goal.codes_there-requires
codes_there-requires c =
    rw (counted c.args.self.placed c.present_count-present.ensures)
    (omega (arith, few-codes c.args.self.placed.within))

pub returns-in_err-by : goal.returns-in_err-by
returns-in_err-by c =
    let p = c.args.self.placed in
    let first = is-i p c.present_count-present.ensures c.codes_there.result c.left.result c.left.ensures c.codes_there.ensures c.in_err-by.ensures in
    let e = err_from_is_err_and c.from_residual.result c.from_residual.ensures.1 in
    rw (e.1, e.2) (stops-by I (i p) (behind-i p) first)

pub codes_held-requires : goal.codes_held-requires
codes_held-requires c =
    rw (counted c.args.self.placed c.present_count-present.ensures)
    (omega (arith, few-codes c.args.self.placed.within))

pub returns-in_err-by-2 : goal.returns-in_err-by-2
returns-in_err-by-2 c =
    let p = c.args.self.placed in
    let count = c.present_count-present.ensures in
    let first = is-i p count c.codes_there.result c.left.result c.left.ensures c.codes_there.ensures c.in_ok-by.ensures in
    let second = is-j p count c.codes_held.result c.codes_held.ensures c.in_err-by-2.ensures in
    let e = err_from_is_err_and c.from_residual-in_err-by-2.result c.from_residual-in_err-by-2.ensures.1 in
    rw (e.1, e.2)
    (stops-by J (j p) (behind-j p) second
    ∙ sym (goes_by I (i p) (behind-i p) first))

pub returns : goal.returns
returns c =
    let p = c.args.self.placed in
    let count = c.present_count-present.ensures in
    let first = is-i p count c.codes_there.result c.left.result c.left.ensures c.codes_there.ensures c.in_ok-by.ensures in
    let second = is-j p count c.codes_held.result c.codes_held.ensures c.in_ok-by-2.ensures in
    let last = rw (counted p count, codes_at_is p) at c.nothing_over.ensures in
    rw last at c.by-3.ensures
    ∙ sym (goes_by J (j p) (behind-j p) second)
    ∙ sym (goes_by I (i p) (behind-i p) first)
