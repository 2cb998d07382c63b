-- `mapping::imapb_mapping` meets its contract: a mapping is known by its length.
use mathlib.Core.Path.{sym, ◌∙◌}
use Rattle.imapb.proofs.Length.{length-kept}
use Rattle.imapb.proofs.Maps.{mapping-is}
use Rattle.imapb.proofs.mapping.imapb_mapping.Goals as goal

pub returns : goal.returns
returns c = mapping-is c.mapping.result (c.mapping.ensures ∙ length-kept c.args.length _ (sym c.ok.ensures.value ∙ c.in_ok-length.was) c.new.ensures)
