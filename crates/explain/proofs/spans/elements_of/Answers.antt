-- `spans::elements_of` meets its contract: nothing stands behind the codes.
use Rattle.layout.specs.declared.rule.Rule.TheVariants.{A}
use Rattle.rules.proofs.Refused.{none-refuses}
use Rattle.explain.proofs.Ends.{ends}
use Rattle.explain.proofs.spans.elements_of.Goals as goal

pub control_at-control-requires : goal.control_at-control-requires
control_at-control-requires c = none-refuses c.args.bytes.now c.requires.0 A

pub returns : goal.returns
returns c =
    rw (c.control_at-control.ensures, c.requires.1, ends c.args.bytes.now c.requires.0)
