-- `Planned::write_sent_words` meets its contract: each turn puts eight slots' words over what those before them left,
-- and their byte of the Bit Vector.
use Prim.Native.Nat.{◌/◌, ◌<◌}
use native.Mathlib.Omega.{arith}
use lib.ListN.{length}
use Rattle.slots.proofs.SentWords.{sent-words-none, sent-words-long, sent-words-left, sent-words-place, sent-words-more}
use Rattle.slots.proofs.planned.Planned.write_sent_words.Goals as goal
use Rattle.slots.proofs.planned.Planned.write_sent_words.Goals.{In-loop-next}

-- eight slots are left
left : (c : In-loop-next) → c.loop-next.i < length c.args.self.now.correlations.now / 8
left c =
    let f = rw c.requires.0 at c.args.self.now.fits in
    sent-words-left c.loop-next.invariant f.ends (omega arith)

pub loop-next-init : goal.loop-next-init
loop-next-init c =
    let f = rw c.requires.0 at c.args.self.now.fits in
    sent-words-none f.behind (omega (arith, f.ends))

pub write_group_words-next-requires : goal.write_group_words-next-requires
write_group_words-next-requires c =
    let h = left (goal.at.write_group_words-next-requires c).In-loop-next in
    (omega (arith, h), sent-words-place c.loop-next.invariant h, omega (arith, sent-words-long c.loop-next.invariant, c.requires.1))

pub loop-next-smaller : goal.loop-next-smaller
loop-next-smaller c = omega (arith, left (goal.at.loop-next-smaller c).In-loop-next)

pub loop-next-preserved : goal.loop-next-preserved
loop-next-preserved c =
    let f = c.args.self.now.fits.codable in
    let w = c.write_group_words-next in
    sent-words-more c.loop-next.invariant (left (goal.at.loop-next-preserved c).In-loop-next) f.clen f.values (omega arith) w.ensures.1 w.ensures.0
