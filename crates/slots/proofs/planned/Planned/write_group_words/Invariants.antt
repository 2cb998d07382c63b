use Rattle.slots.proofs.SentWords.{EightWords}
use Rattle.slots.proofs.planned.Planned.write_group_words.Given as goal

abbrev pub invariant-loop-j : goal.invariant-loop-j
invariant-loop-j l = EightWords l.correlations l.from l.plan.clen l.at l.place l.initial.out l.j l.out l.next
