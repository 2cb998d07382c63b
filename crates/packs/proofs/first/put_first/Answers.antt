-- `first::put_first` meets its contract.
use mathlib.Core.Path.{sym, ◌∙◌}
use Rattle.text.proofs.Adding.{adds_then}
use Rattle.packs.proofs.Counted.{read_first}
use Rattle.packs.proofs.first.put_first.Goals as goal

pub returns : goal.returns
returns c =
    let f = sym c.is_too_big.ensures ∙ c.if-is_too_big.false in
    let k = c.read_set-answer.ensures in
    read_first c.args.set.now c.args.tags.now f c.read_set-answer.result k.0 k.1 c.count_of.ensures (adds_then c.put_set.ensures c.byte.ensures)
