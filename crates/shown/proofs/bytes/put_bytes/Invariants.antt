use lib.ListN.{get_or}
use Rattle.answers.specs.Lent.{joined}
use Rattle.text.specs.Page.{Adds}
use Rattle.shown.specs.Bytes.{byte_text}
use Rattle.shown.proofs.bytes.put_bytes.Given as goal

abbrev pub invariant-loop-byte : goal.invariant-loop-byte
invariant-loop-byte l = Adds (joined l.byte-index (λ i. byte_text l.form (get_or l.bytes i 0))) l.initial.page l.page
