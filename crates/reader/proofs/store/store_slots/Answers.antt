-- `store::store_slots` meets its contract: what is not stored by words is stored slot by slot.
use mathlib.Core.Path.{refl}
use Rattle.std.proofs.lemmas.Result.{err_from_is_err_and}
use Rattle.reader.proofs.Whole.{stays, by-words-stored, plain-there, now-stored}
use Rattle.reader.proofs.store.store_slots.Goals as goal

pub returns-in_err-decided : goal.returns-in_err-decided
returns-in_err-decided c =
    let a = c.args in
    let e = err_from_is_err_and c.from_residual.result c.from_residual.ensures.1 in
    rw (e.1, e.2) (stays a.range a.bytes.now a.room a.correlations.now a.states.now c.in_err-decided.ensures c.in_err-decided.field-0.0 refl)

pub returns-then-by_words : goal.returns-then-by_words
returns-then-by_words c =
    let a = c.args in
    by-words-stored a.range a.bytes.now a.room a.correlations.now a.states.now c.in_ok-decided.ensures refl c.by_words.ensures c.if-by_words.true

pub fill_plain-requires : goal.fill_plain-requires
fill_plain-requires c =
    let a = c.args in
    rw c.corr_slots.ensures
    (plain-there a.range a.bytes.now a.room a.correlations.now a.states.now c.in_ok-decided.ensures refl c.by_words.ensures c.if-by_words.false)

pub returns : goal.returns
returns c =
    let a = c.args in
    let e = c.corr_slots.ensures in
    now-stored a.range a.bytes.now a.room a.correlations.now a.states.now c.in_ok-decided.ensures refl c.by_words.ensures c.if-by_words.false
    (rw e at c.fill_plain.ensures.0) (rw e at c.fill_plain.ensures.1)
