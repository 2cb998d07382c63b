-- `string::byte_string` meets its contract. The invariant: what is left to read counts and stores as all of it.
use mathlib.Core.Path.{sym, ◌∙◌}
use native.Mathlib.Omega.{arith}
use Rattle.text.proofs.Spelled.{spelled-more, spelled-end}
use Rattle.text.proofs.string.byte_string.Goals as goal

pub returns-in_default-clause-value : goal.returns-in_default-clause-value
returns-in_default-clause-value c = let p = c.loop-count.invariant in (spelled-end p (omega (arith, p.long)) (sym c.hex.ensures ∙ c.in_default.is) c.spelled.ensures).0

pub returns-in_default-clause-line_after : goal.returns-in_default-clause-line_after
returns-in_default-clause-line_after c = let p = c.loop-count.invariant in (spelled-end p (omega (arith, p.long)) (sym c.hex.ensures ∙ c.in_default.is) c.spelled.ensures).1

pub loop-count-preserved : goal.loop-count-preserved
loop-count-preserved c =
    let p = c.loop-count.invariant in
    spelled-more p (omega (arith, p.long)) (sym c.hex.ensures ∙ c.in-Some.is)
