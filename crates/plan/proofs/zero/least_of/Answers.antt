-- `zero::least_of` meets its contract.
use mathlib.Core.Path.{sym, ◌∙◌}
use Rattle.plan.proofs.Raised.{no_nan, least-is}
use Rattle.plan.proofs.zero.least_of.Goals as goal

pub float_from_bits-bits : goal.float_from_bits-bits
float_from_bits-bits c = no_nan c.args.bits c.requires.1

pub returns-then-bits : goal.returns-then-bits
returns-then-bits c = rw (sym (least-is c.args.bits c.requires.0 c.requires.1) ∙ c.if-bits.true)
