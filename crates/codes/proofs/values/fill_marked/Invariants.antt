use Rattle.std.proofs.Common.{◌*◌}
use Rattle.codes.proofs.Marked.{Marked}
use Rattle.codes.proofs.values.fill_marked.Given as goal

abbrev pub invariant-loop-i : goal.invariant-loop-i
invariant-loop-i l = Marked l.bytes l.vector l.codes l.mapping l.slots l.initial.correlations l.initial.states (8 * l.i) l.correlations l.states l.next l.met
