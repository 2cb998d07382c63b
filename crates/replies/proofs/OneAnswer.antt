-- No second answer meets a contract: two that do are the same, with what they leave on a page.
-- Assumes nothing.
use mathlib.Core.Path.{sym, ◌∙◌}
use Rattle.answers.specs.OneAnswer.{OneResult, OneAnswer}
use Rattle.text.specs.Page.{filled}
use Rattle.text.proofs.OneAnswer.{adds_one}
use Rattle.replies.proofs.forms.letter.Reads as letter
use Rattle.replies.proofs.forms.is_field.Reads as is_field
use Rattle.replies.proofs.reply.one.Reads as one
use Rattle.replies.proofs.reply.words.Reads as words
use Rattle.replies.proofs.refusal.refused.Reads as refused
use Rattle.replies.proofs.kind.special_of.Reads as special-of
use Rattle.replies.proofs.kind.special.Reads as special
use Rattle.replies.proofs.mapped.of_mapped.Reads as of-mapped
use Rattle.replies.proofs.numeric.float_of.Reads as float_of
use Rattle.replies.proofs.numeric.widen.Reads as widen
use Rattle.replies.proofs.numeric.narrow.Reads as narrow
use Rattle.replies.proofs.numeric.of_oid.Reads as of-oid
use Rattle.replies.proofs.numeric.of_strict_oid.Reads as of-strict-oid
use Rattle.replies.proofs.numeric.of_ber.Reads as of-ber
use Rattle.replies.proofs.outcome.of_written.Reads as of-written
use Rattle.replies.proofs.pack.of_peek.Reads as of-peek
use Rattle.replies.proofs.pack.of_read.Reads as of-read
use Rattle.replies.proofs.pack.of_cell.Reads as of-cell
use Rattle.replies.proofs.pack.of_usable.Reads as of-usable
use Rattle.replies.proofs.set.of_set.Reads as of-set
use Rattle.replies.proofs.set.of_place.Reads as of-place
use Rattle.replies.proofs.put.put_reply.Reads as put-reply

pub letter-one : OneResult letter.Learnt
letter-one κs a r r' s s' p q = p ∙ sym q

pub is-field-one : OneResult is_field.Learnt
is-field-one κs a r r' s s' p q = p ∙ sym q

pub one-one : OneResult one.Learnt
one-one κs a r r' s s' p q = p ∙ sym q

pub words-one : OneResult words.Learnt
words-one κs a r r' s s' p q = p ∙ sym q

pub refused-one : OneResult refused.Learnt
refused-one κs a r r' s s' p q = p ∙ sym q

pub special-of-one : OneResult special-of.Learnt
special-of-one κs a r r' s s' p q = p ∙ sym q

pub special-one : OneResult special.Learnt
special-one κs a r r' s s' p q = p ∙ sym q

pub of-mapped-one : OneResult of-mapped.Learnt
of-mapped-one κs a r r' s s' p q = p ∙ sym q

pub float-of-one : OneResult float_of.Learnt
float-of-one κs a r r' s s' p q = p ∙ sym q

pub widen-one : OneResult widen.Learnt
widen-one κs a r r' s s' p q = p ∙ sym q

pub narrow_one : OneResult narrow.Learnt
narrow_one κs a r r' s s' p q = p ∙ sym q

pub of-oid-one : OneResult of-oid.Learnt
of-oid-one κs a r r' s s' p q = p ∙ sym q

pub of-strict-oid-one : OneResult of-strict-oid.Learnt
of-strict-oid-one κs a r r' s s' p q = p ∙ sym q

pub of-ber-one : OneResult of-ber.Learnt
of-ber-one κs a r r' s s' p q = p ∙ sym q

pub of-written-one : OneResult of-written.Learnt
of-written-one κs a r r' s s' p q = p ∙ sym q

pub of-peek-one : OneResult of-peek.Learnt
of-peek-one κs a r r' s s' p q = p ∙ sym q

pub of-read-one : OneResult of-read.Learnt
of-read-one κs a r r' s s' p q = p ∙ sym q

pub of-cell-one : OneResult of-cell.Learnt
of-cell-one κs a r r' s s' p q = p ∙ sym q

pub of-usable-one : OneResult of-usable.Learnt
of-usable-one κs a r r' s s' p q = p ∙ sym q

pub of-set-one : OneResult of-set.Learnt
of-set-one κs a r r' s s' p q = p ∙ sym q

pub of-place-one : OneResult of-place.Learnt
of-place-one κs a r r' s s' p q = p ∙ sym q

pub put-reply-one : OneAnswer put-reply.Learnt (λ κs s. filled s.1.0.now)
put-reply-one κs a r r' s s' p q = adds_one p q
