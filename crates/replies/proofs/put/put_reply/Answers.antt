-- `put::put_reply` meets its contract. The invariant: what is left of the form is what is left to put.
use native.Mathlib.Numerals.{add-one}
use native.Mathlib.Omega.{arith}
use mathlib.Core.Path.{sym, ◌∙◌, ap}
use lib.ListN.{drop_of_length-le}
use Rattle.text.proofs.Forms.{spread_end, spread-more}
use Rattle.text.proofs.Adding.{owes-more, owes-done}
use Rattle.replies.specs.Forms.{form_of}
use Rattle.replies.specs.ReplyText.{text_of, is_end}
use Rattle.replies.proofs.Table.{form-short}
use Rattle.replies.proofs.Letters.{dot-ends}
use Rattle.replies.proofs.put.put_reply.Goals as goal

pub returns-then-ends : goal.returns-then-ends
returns-then-ends c =
    let p = c.loop-i in
    let reply = c.args.reply in
    let done = sym (ap is_end c.letter-letter.ensures) ∙ sym c.ends.ensures ∙ c.if-ends.true in
    owes-done (rw (spread_end is_end (text_of reply) dot-ends (form_of reply.form) p.i done) at p.invariant)

pub loop-i-preserved : goal.loop-i-preserved
loop-i-preserved c =
    let p = c.loop-i in
    let reply = c.args.reply in
    let more = sym (ap is_end c.letter-letter.ensures) ∙ sym c.ends.ensures ∙ c.if-ends.false in
    rw add-one
    (owes-more (rw (spread-more is_end (text_of reply) dot-ends (form_of reply.form) p.i more) at p.invariant)
    (rw (c.value.ensures, c.letter-letter.ensures) at c.put_letter.ensures))

pub returns : goal.returns
returns c =
    let p = c.loop-i in
    let form = form_of c.args.reply.form in
    let past = form-short c.args.reply.form in
    owes-done (rw (drop_of_length-le form {i = p.i} (omega (arith, past))) at p.invariant)
