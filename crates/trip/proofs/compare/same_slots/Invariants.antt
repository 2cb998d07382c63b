use lib.ListN.{length, get_or}
use Rattle.trip.specs.Compared.{slot_agrees}
use Rattle.answers.proofs.Every.{Tested}
use Rattle.trip.proofs.compare.same_slots.Given as goal

abbrev pub invariant-loop-k : goal.invariant-loop-k
invariant-loop-k l = Tested (length l.sent) (λ j. slot_agrees l.clen (get_or l.sent j 0) (get_or l.back j 0) (get_or l.states j 0)) l.k
