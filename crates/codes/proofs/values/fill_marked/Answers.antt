-- `values::fill_marked` meets its contract: each turn fills the slots of one byte of the Bit Vector, and the last byte
-- may have fewer than eight.
use Rattle.std.proofs.Common.{◌≡◌, ◌+◌, ◌*◌, ◌/◌, ◌%◌, ◌≤◌, le_refl}
use Rattle.codes.proofs.Counts.{eight-there, eight-next, byte-there, whole-bytes, rest-is, rest-there, no-rest}
use Rattle.codes.proofs.Marked.{Marked, marked-none, marked-codes, marked-room, marked_more, marked-done}
use Rattle.codes.proofs.values.fill_marked.Goals as goal
use Rattle.codes.proofs.values.fill_marked.Goals.{After-loop-i, In-loop-i}

-- a whole byte's slots are there
eight : (c : In-loop-i) → 8 * c.loop-i.i + 8 ≤ c.args.slots
eight c = eight-there c.args.slots c.loop-i-test.true

-- after the loop the slots of the whole bytes are filled
filled : (c : After-loop-i)
    → let l = c.loop-i in
    let a = c.args in
    Marked a.bytes.now a.vector a.codes a.mapping a.slots a.correlations.now a.states.now (8 * (a.slots / 8)) l.correlations l.states l.next l.met
filled c =
    let e : c.loop-i.i ≡ c.args.slots / 8 = whole-bytes c.args.slots c.loop-i.auto.i-end c.loop-i-test.false in
    rw e at c.loop-i.invariant

-- the last byte's slots are there
rest : (c : After-loop-i) → let a = c.args in 8 * (a.slots / 8) + a.slots % 8 ≤ a.slots
rest c = (rest-is c.args.slots).0

pub loop-i-init : goal.loop-i-init
loop-i-init c = marked-none c.requires.2 c.requires.3

pub fill_group-reached-requires : goal.fill_group-reached-requires
fill_group-reached-requires c =
    let w = (goal.at.fill_group-reached-requires c).In-loop-i in let l = w.loop-i in
    let h = eight w in
    let r = marked-room l.i l.invariant h (le_refl 8) in
    (marked-codes l.i l.invariant h (le_refl 8) w.requires.0, le_refl 8, byte-there w.args.slots w.args.vector w.loop-i-test.true w.requires.1, r.0, r.1)

pub loop-i-preserved : goal.loop-i-preserved
loop-i-preserved c =
    let w = (goal.at.loop-i-preserved c).In-loop-i in let l = w.loop-i in
    let n = c.fill_group-reached.ensures in
    rw (eight-next l.i) (marked_more l.i l.invariant (eight w) (le_refl 8) n.0 n.1 n.2 n.3 n.4)

pub fill_group-reached-requires-then-rest-gt0 : goal.fill_group-reached-requires-then-rest-gt0
fill_group-reached-requires-then-rest-gt0 c =
    let w = (goal.at.fill_group-reached-requires-then-rest-gt0 c).After-loop-i in let i = w.args.slots / 8 in
    let h = rest w in
    let most = (rest-is w.args.slots).2 in
    let r = marked-room i (filled w) h most in
    (marked-codes i (filled w) h most w.requires.0, most, rest-there w.args.slots w.args.vector c.if-rest-gt0.true w.requires.1, r.0, r.1)

pub returns-then-rest-gt0 : goal.returns-then-rest-gt0
returns-then-rest-gt0 c =
    let w = (goal.at.returns-then-rest-gt0 c).After-loop-i in let slots = w.args.slots in
    let n = c.fill_group-reached-then-rest-gt0.ensures in
    let is = rest-is slots in
    marked-done (marked_more (slots / 8) (filled w) (rest w) is.2 n.0 n.1 n.2 n.3 n.4) is.1

pub returns : goal.returns
returns c = marked-done c.loop-i.invariant (no-rest c.args.slots c.loop-i-test.false c.if-rest-gt0.false)
