-- `reason::put_reason` meets its contract: the sentence stands behind the refusal where parts have lines.
use Rattle.text.proofs.Adding.{adds_then}
use Rattle.reasons.proofs.reason.put_reason.Goals as goal

pub returns-then-lines : goal.returns-then-lines
returns-then-lines c =
    rw c.if-lines.true
    (adds_then c.put_ruled.ensures
    (adds_then c.byte.ensures
    (rw (c.sentence_for.ensures, c.facts_of-facts.ensures, c.row_of-row.ensures) at c.put_sentence.ensures)))
