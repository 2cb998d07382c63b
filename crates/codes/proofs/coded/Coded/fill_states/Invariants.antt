use Rattle.std.proofs.Common.{◌≡◌}
use Rattle.answers.specs.Lent.{tab}
use Rattle.answers.proofs.Lent.{Front}
use Rattle.elements.specs.Elements.{slot_in}
use Rattle.codes.proofs.Filled.{code_at}
use Rattle.codes.proofs.coded.Coded.fill_states.Given as goal

abbrev pub invariant-loop-k : goal.invariant-loop-k
invariant-loop-k l = Front (tab l.slots (λ j. (slot_in l.bytes l.vector l.codes l.control j).state)) l.initial.states l.k l.states
    × (l.next ≡ code_at l.bytes l.vector l.codes l.control l.k)
