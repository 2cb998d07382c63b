use lib.ListN.{length}
use Rattle.answers.proofs.Runs.{Run}
use Rattle.writer.specs.Pack.{deviation_bytes}
use Rattle.writer.proofs.elements.write_deviations.Given as goal

abbrev pub invariant-loop-deviation : goal.invariant-loop-deviation
invariant-loop-deviation l = Run (length l.deviations) (deviation_bytes l.deviations) l.at l.initial.out l.deviation-index l.out l.next
