-- `store::store_mapped` meets its contract: the rules in their order, and then the slots.
use Rattle.std.proofs.Common.{◌≡◌, length, sym, ◌∙◌}
use Rattle.std.proofs.lemmas.Result.{err_from_is_err_and}
use Rattle.answers.specs.Table.{passes}
use Rattle.rules.specs.Rules.{room_rules}
use Rattle.codes.proofs.Whole.{pack-stops, room-stops, passed-all, not-stored, stored, slots-there}
use Rattle.codes.proofs.store.store_mapped.Goals as goal
use Rattle.codes.proofs.store.store_mapped.Goals.{In_ok-check_rooms}

-- rule l)
has_room : (c : In_ok-check_rooms)
    → let a = c.args in
    room_rules c.in_ok-decided.decided.places.head a.room (length a.correlations.now) (length a.states.now) ≡ passes
has_room c = sym c.in_ok-check_rooms.ensures

pub returns-in_err-decided : goal.returns-in_err-decided
returns-in_err-decided c =
    let a = c.args in
    let e = err_from_is_err_and c.from_residual.result c.from_residual.ensures.1 in
    rw (e.1, e.2) (pack-stops a.range a.bytes.now a.room a.correlations.now a.states.now c.in_err-decided.field-0.0 c.in_err-decided.ensures)

pub returns-in_err-check_rooms : goal.returns-in_err-check_rooms
returns-in_err-check_rooms c =
    let a = c.args in
    let e = err_from_is_err_and c.from_residual-in_err-check_rooms.result c.from_residual-in_err-check_rooms.ensures.1 in
    rw (e.1, e.2) (room-stops a.range a.bytes.now a.room a.correlations.now a.states.now c.in_ok-decided.ensures c.in_err-check_rooms.field-0.0 c.in_err-check_rooms.ensures)

pub returns-then-not-by_words : goal.returns-then-not-by_words
returns-then-not-by_words c =
    let t = (goal.at.returns-then-not-by_words c).In_ok-check_rooms in let a = t.args in
    not-stored a.range a.bytes.now a.room a.correlations.now a.states.now t.in_ok-decided.ensures (has_room t) c.by_words.ensures (c.if-not-by_words.true)

pub fill_mapped-requires : goal.fill_mapped-requires
fill_mapped-requires c =
    let q = (goal.at.fill_mapped-requires c).In_ok-check_rooms in let a = q.args in
    let t = slots-there a.range a.bytes.now a.room a.correlations.now a.states.now (passed-all a.range a.bytes.now a.room a.correlations.now a.states.now q.in_ok-decided.ensures (has_room q)) in
    rw c.corr_slots-slots.ensures (t.0, t.1, sym c.by_words.ensures ∙ c.if-not-by_words.false, t.2, t.3)

pub returns : goal.returns
returns c =
    let q = (goal.at.returns c).In_ok-check_rooms in let a = q.args in
    let e = c.corr_slots-slots.ensures in
    stored a.range a.bytes.now a.room a.correlations.now a.states.now q.in_ok-decided.ensures (has_room q) c.by_words.ensures c.if-not-by_words.false
    (rw e at c.fill_mapped.ensures.0) (rw e at c.fill_mapped.ensures.1)
