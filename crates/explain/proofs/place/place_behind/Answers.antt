-- `place::place_behind` meets its contract.
use mathlib.Core.Path.{◌≡◌, sym, ap, ◌∙◌}
use Rattle.layout.specs.declared.rule.Rule.{Rule}
use Rattle.layout.specs.Ruled.{refused_by}
use Rattle.elements.specs.declared.head.Places.{Places}
use Rattle.answers.specs.Listed.{listed}
use Rattle.rules.specs.Named.{pack_ruled}
use Rattle.explain.specs.Explained.{place_of}
use Rattle.explain.proofs.Places.{last-is, at-deviation, at_code, at-end}
use Rattle.explain.proofs.place.place_behind.Goals as goal
use Rattle.explain.proofs.place.place_behind.Goals.{Start}

-- the rule, once it is known
known : (s : Start) (x : Rule) → s.args.rule ≡ x → pack_ruled s.args.bytes.now ≡ refused_by x (listed s.args.refusal)
known s x p = s.requires.0 ∙ ap (λ (y : Rule). refused_by y (listed s.args.refusal)) p

pub returns-in-H : goal.returns-in-H
returns-in-H c =
    let s = (goal.at.returns-in-H c).Start in let b = s.args.bytes.now in
    let p = c.in-H.is in
    rw (ap (λ (q : Places). q.deviations) s.requires.2) at c.value_at.ensures
    ∙ at-deviation b (known s _ p)
    ∙ ap (place_of b) (sym p)

pub returns-in-J : goal.returns-in-J
returns-in-J c =
    let s = (goal.at.returns-in-J c).Start in let b = s.args.bytes.now in
    let p = c.in-J.is in
    rw (ap (λ (q : Places). q.codes) s.requires.2) at c.value_at-in-J.ensures
    ∙ at_code b (known s _ p)
    ∙ ap (place_of b) (sym p)

pub returns-in_default : goal.returns-in_default
returns-in_default c =
    let s = (goal.at.returns-in_default c).Start in let b = s.args.bytes.now in
    let p = last-is s.args.rule s.requires.1 c.in_default.not-H c.in_default.not-I c.in_default.not-J in
    c.used_by.ensures ∙ at-end b (known s _ p) ∙ ap (place_of b) (sym p)
