use lib.ListN.{drop}
use Rattle.text.proofs.Adding.{Owes}
use Rattle.lines.specs.Lines.{numbers}
use Rattle.packs.proofs.tags.put_each.Given as goal

abbrev pub invariant-loop-tag : goal.invariant-loop-tag
invariant-loop-tag l = Owes (numbers (drop l.tag-index l.tags)) l.page (numbers l.tags) l.initial.page
