-- `Planned::write_words` meets its contract: each turn writes the next correlation's word behind the codes before it,
-- over what the word before it left.
use Prim.Native.Nat.{◌+◌, ◌≤◌}
use native.Mathlib.Omega.{arith}
use lib.ListN.{length}
use Rattle.slots.proofs.AllSlots.{first-left, first-is, first-room, first_more}
use Rattle.slots.proofs.planned.Planned.write_words.Goals as goal
use Rattle.slots.proofs.planned.Planned.write_words.Goals.{In-loop-value}

-- the next word has room
room : (c : In-loop-value) → c.loop-value.next + 8 ≤ length c.loop-value.out
room c = first-room c.loop-value.invariant c.args.self.now.fits.codable.clen (first-left c.args.self.now.correlations.now c.requires.0 c.loop-value-test.true)

pub put_word-requires : goal.put_word-requires
put_word-requires c =
    (rw (first-is c.args.self.now.correlations.now c.requires.0 c.loop-value-test.true) (c.args.self.now.fits.codable.values c.loop-value.value-index), room (goal.at.put_word-requires c).In-loop-value)

pub overflow_add-next : goal.overflow_add-next
overflow_add-next c = omega (arith, room (goal.at.overflow_add-next c).In-loop-value)

pub loop-value-preserved : goal.loop-value-preserved
loop-value-preserved c =
    let cs = c.args.self.now.correlations.now in
    let h = c.loop-value-test.true in
    first_more c.loop-value.invariant c.args.self.now.fits.codable.clen (first-left cs c.requires.0 h) c.args.self.now.fits.codable.values (rw (first-is cs c.requires.0 h) at c.put_word.ensures)
