use lib.ListN.{drop}
use Rattle.text.specs.Forms.{spread}
use Rattle.text.proofs.Adding.{Owes}
use Rattle.reasons.specs.Sentences.{sentence_of, is_end, text_of, sentence_text}
use Rattle.reasons.proofs.sentence.put_sentence.Given as goal

abbrev pub invariant-loop-i : goal.invariant-loop-i
invariant-loop-i l = Owes (spread is_end (text_of l.facts) (drop l.i (sentence_of l.sentence))) l.page (sentence_text l.sentence l.facts) l.initial.page
