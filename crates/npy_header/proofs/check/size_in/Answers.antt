-- `check::size_in` meets its contract. The invariant: what is left to take, behind n, spells the size.
use mathlib.Core.Path.{sym, ◌∙◌}
use Rattle.npy_header.proofs.Headers.{sizing-none, sizing-more}
use Rattle.npy_header.proofs.check.size_in.Goals as goal

pub loop-i-init : goal.loop-i-init
loop-i-init c = sizing-none c.args.file.now

pub loop-i-preserved : goal.loop-i-preserved
loop-i-preserved c =
    sizing-more c.loop-i.invariant c.loop-i-test.true (sym c.decimal_digit_at.ensures ∙ c.in-Some.is) c.if-n-eq0.false
