-- `Planned::write_group_words` meets its contract: each turn adds the bit of the next slot, if it is sent, to their
-- byte, and puts its word over what the one before it left.
use mathlib.Core.Path.{◌∙◌}
use Prim.Native.Nat.{◌+◌, ◌*◌, ◌≤◌}
use native.Mathlib.Omega.{arith}
use lib.ListN.{length, set, length-set}
use lib.Seq.{set-set}
use Rattle.slots.proofs.SentWords.{words_long, words-room, words-byte, words-one, words-none, words-done}
use Rattle.slots.proofs.planned.Planned.write_group_words.Goals as goal
use Rattle.slots.proofs.planned.Planned.write_group_words.Goals.{then-correlations-from-ne0, else-correlations-from-ne0, In-loop-j, Start}

-- the room, when the byte's 0 is stored
room₀ : (s : Start) → let a = s.args in a.at + 8 * a.self.now.plan.clen + 8 ≤ length (set a.out.now a.place 0)
room₀ s = rw (length-set s.args.out.now s.args.place 0) s.requires.2

-- a word's room, and the byte's place
room : (t : In-loop-j) → t.loop-j.next + t.args.self.now.plan.clen + 8 ≤ length t.loop-j.out
room t = let s = t.before.before.before.before.before in words-room t.loop-j.invariant t.loop-j-test.true s.args.self.now.fits.codable.clen (room₀ s)

pub overflow_add-out : goal.overflow_add-out
overflow_add-out c =
    let s = (goal.at.overflow_add-out c).Start in record { fits = words-byte c.loop-j.invariant c.loop-j-test.true s.args.self.now.fits.codable.clen (room₀ s) c.if-correlations-from-ne0.true }

pub put_word-requires : goal.put_word-requires
put_word-requires c =
    let t = (goal.at.put_word-requires c).In-loop-j in (t.args.self.now.fits.codable.values (t.args.from + t.loop-j.j), rw length-set (omega (arith, room t)))

pub overflow_add-next : goal.overflow_add-next
overflow_add-next c =
    let t = (goal.at.overflow_add-next c).In-loop-j in let a = t.args in
    omega (arith, room t, words_long t.loop-j.invariant, length-set a.out.now a.place 0)

pub loop-j-preserved : goal.loop-j-preserved
loop-j-preserved c =
    let s = (goal.at.loop-j-preserved c).Start in let i = c.loop-j.invariant in
    elim c.if-correlations-from-ne0.branch [
      | then-correlations-from-ne0 w ↦ words-one i c.loop-j-test.true s.args.self.now.fits.codable.clen (room₀ s) w.if-correlations-from-ne0.true s.args.self.now.fits.codable.values (w.out-is ∙ w.put_word.ensures) w.next-is
      | else-correlations-from-ne0 w ↦ words-none i c.loop-j-test.true s.args.self.now.fits.codable.clen (room₀ s) w.if-correlations-from-ne0.false w.out-is w.next-is
    ]

pub returns : goal.returns
returns c = rw set-set at (words-done c.loop-j.invariant c.loop-j-test.false)

pub overflow_add-from : goal.overflow_add-from
overflow_add-from c = omega arith
