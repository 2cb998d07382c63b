-- `values::fill_group` meets its contract: each turn stores an absent slot, and over it the next code's number where
-- the slot's bit is set.
use Rattle.std.proofs.Common.{◌+◌, ◌*◌, ◌^◌, ◌<◌, ◌≤◌, length, arith}
use Rattle.codes.proofs.Counts.{within-fits}
use Rattle.codes.proofs.Marked.{group-code, group-set, group-unset}
use Rattle.codes.proofs.values.fill_group.Goals as goal
use Rattle.codes.proofs.values.fill_group.Goals.{then-byte-j-eq1, else-byte-j-eq1, Start, Then-byte-j-eq1}

-- what is lent is no longer than a number can count
few : (s : Start)
    → let n = length s.args.correlations.now in
    (length s.args.bytes.now < 2 ^ 64) × ((n < 2 ^ 64) × (n * 8 < 2 ^ 64))
few s = (omega arith, (omega arith, omega arith))

-- the next code
there : (c : Then-byte-j-eq1)
    → let a = c.args in
    (8 ≤ c.loop-j.next) × (c.loop-j.next + a.mapping.length ≤ length a.bytes.now)
there c =
    let p = c.requires in
    group-code c.loop-j.invariant c.loop-j-test.true p.1 c.if-byte-j-eq1.true p.0

pub code_at-y-requires : goal.code_at-y-requires
code_at-y-requires c = there c

pub overflow_add-next : goal.overflow_add-next
overflow_add-next c = let t = (goal.at.overflow_add-next c).Then-byte-j-eq1 in within-fits (there t).1 (few (goal.at.overflow_add-next c).Start).0

pub loop-j-preserved : goal.loop-j-preserved
loop-j-preserved c =
    let g = c.loop-j.invariant in
    let most = c.requires.1 in
    elim c.if-byte-j-eq1.branch [
      | then-byte-j-eq1 w ↦ rw (w.correlations-is, w.states-is, w.seen-is, w.next-is) (group-set g c.loop-j-test.true most w.if-byte-j-eq1.true w.code_at-y.ensures w.value_of.ensures)
      | else-byte-j-eq1 w ↦ rw (w.correlations-is, w.states-is, w.seen-is, w.next-is) (group-unset g c.loop-j-test.true most w.if-byte-j-eq1.false)
    ]
