use Rattle.std.proofs.Common.{◌≡◌, ◌+◌, ◌*◌}
use Rattle.answers.specs.Lent.{tab}
use Rattle.answers.proofs.Lent.{Front}
use Rattle.codes.specs.Fill.{Within, mapped_in}
use Rattle.codes.proofs.values.fill_all.Given as goal

abbrev pub invariant-loop-k : goal.invariant-loop-k
invariant-loop-k l = Front (tab l.slots (mapped_in l.bytes l.codes l.mapping.length)) l.initial.correlations l.k l.correlations
    × Front (tab l.slots (λ _. 1)) l.initial.states l.k l.states
    × (l.at ≡ l.codes + l.k * l.mapping.length)
    × Within l.bytes l.codes l.mapping.length l.k l.met
