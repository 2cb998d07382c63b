-- `CodeLength::scale` meets its contract, by the table's rule.
use mathlib.Core.Path.{ap, ◌∙◌}
use Prim.Native.Nat.{◌-◌}
use native.Mathlib.Omega.{arith}
use lib.Ieee.{nan, of_bits}
use Rattle.imapb.specs.Mapping.{scale_of}
use Rattle.imapb.proofs.Table.{ruled-at}
use Rattle.imapb.proofs.code_length.CodeLength.scale.Goals as goal

pub returns : goal.returns
unfolding of_bits
returns c = ruled-at scale_of nan 8 1 (c.args.self.bytes - 1) (omega arith) ∙ ap scale_of (omega arith)
