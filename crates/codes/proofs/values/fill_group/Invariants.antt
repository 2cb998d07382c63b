use Rattle.std.proofs.Common.{◌+◌, ◌*◌, get_or}
use Rattle.codes.proofs.Marked.{Group}
use Rattle.codes.proofs.values.fill_group.Given as goal

abbrev pub invariant-loop-j : goal.invariant-loop-j
invariant-loop-j l = Group (get_or l.bytes (l.vector + l.i) 0) l.bytes l.at l.mapping (8 * l.i) l.count l.initial.correlations l.initial.states l.met l.j l.correlations l.states l.next l.seen
