-- `put::put_sentence` meets its contract. The invariant: what is left of the sentence is what is left to put.
use native.Mathlib.Numerals.{add-one}
use native.Mathlib.Omega.{arith}
use mathlib.Core.Path.{refl, sym, ◌∙◌}
use borrow.Author.Tests.{eq-eqb, ne_eqb}
use lib.ListN.{drop_of_length-le}
use Rattle.text.proofs.Forms.{spread_end, spread-more}
use Rattle.text.proofs.Adding.{owes-more, owes-done}
use Rattle.reasons.specs.Sentences.{sentence_of, letter_of, is_end, text_of}
use Rattle.reasons.proofs.Rows.{sentence-short}
use Rattle.reasons.proofs.sentence.put_sentence.Goals as goal

pub returns-then-letter-eq124 : goal.returns-then-letter-eq124
returns-then-letter-eq124 c =
    let p = c.loop-i in
    let a = c.args in
    let done = eq-eqb (letter_of a.sentence p.i) 0x7c (sym c.letter-letter.ensures ∙ c.if-letter-eq124.true) in
    owes-done (rw (spread_end is_end (text_of a.facts) refl (sentence_of a.sentence) p.i done) at p.invariant)

pub loop-i-preserved : goal.loop-i-preserved
loop-i-preserved c =
    let p = c.loop-i in
    let a = c.args in
    let more = ne_eqb (letter_of a.sentence p.i) 0x7c (λ e. c.if-letter-eq124.false (c.letter-letter.ensures ∙ e)) in
    rw add-one
    (owes-more (rw (spread-more is_end (text_of a.facts) refl (sentence_of a.sentence) p.i more) at p.invariant)
    (rw (c.value.ensures, c.letter-letter.ensures) at c.put_letter.ensures))

pub returns : goal.returns
returns c =
    let p = c.loop-i in
    let sentence = c.args.sentence in
    owes-done (rw (drop_of_length-le (sentence_of sentence) {i = p.i} (omega (arith, sentence-short sentence))) at p.invariant)
