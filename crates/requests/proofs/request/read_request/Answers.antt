-- `request::read_request` meets its contract. The invariant: what is left to read makes the same request.
use Rattle.requests.proofs.Asked.{reading-none, reading-more}
use Rattle.requests.proofs.request.read_request.Goals as goal

pub loop-i-init : goal.loop-i-init
loop-i-init c = reading-none c.form_of-form.ensures c.unfilled-request.ensures

pub loop-i-preserved : goal.loop-i-preserved
loop-i-preserved c =
    let f = c.field.ensures in
    reading-more c.loop-i.invariant c.loop-i-test.true c.letter-letter.ensures (f.value, (f.line_after, f.words_after))
    c.in-Some.is c.with-request.ensures c.field.auto.line c.field.auto.words
