-- `spans::control_at` meets its contract: N was read.
use mathlib.Core.Path.{sym, ◌∙◌}
use Rattle.numbers.proofs.BerOid.{read-tells}
use Rattle.explain.proofs.spans.control_at.Goals as goal

pub returns : goal.returns
returns c = (read-tells c.args.bytes.now (sym c.unwrap.ensures ∙ c.read_ber_oid.ensures)).0
