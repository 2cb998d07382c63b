use lib.ListN.{drop}
use Rattle.text.proofs.Adding.{Owes}
use Rattle.lines.specs.Lines.{entries}
use Rattle.lines.proofs.Entries.{kinds}
use Rattle.lines.proofs.values.put_entries.Given as goal

abbrev pub invariant-loop-value : goal.invariant-loop-value
invariant-loop-value l = Owes (entries (kinds l.floats (drop l.value-index l.value-items))) l.page (entries (kinds l.floats l.value-items)) l.initial.page
