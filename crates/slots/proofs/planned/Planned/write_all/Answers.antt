-- `Planned::write_all` meets its contract: all codes by themselves, or all but seven by words and the seven over what
-- the last word left.
use mathlib.Core.Path.{◌≡◌}
use mathlib.Core.Bool.{false}
use Prim.Native.Nat.{ℕ, ◌+◌, ◌-◌, ◌≤◌}
use native.Mathlib.Omega.{arith}
use lib.ListN.{length}
use Rattle.slots.specs.Slots.{element5}
use Rattle.slots.specs.declared.planned.Planned.{Planned}
use Rattle.slots.proofs.AllSlots.{room-each, room-words, room-last, words-each}
use Rattle.slots.proofs.planned.Planned.write_all.Goals as goal

-- the codes have room
fits : (a : Planned) {room : ℕ} → (a.plan.sparse ≡ false) × (a.plan.end ≤ room)
    → a.plan.codes + length (element5 false a.correlations.now a.plan.clen) ≤ room
fits a r = let e = rw r.0 at a.fits.ends in omega (arith, e, r.1)

pub write_each-requires : goal.write_each-requires
write_each-requires c =
    let a = c.args.self.now in
    (omega arith, room-each a.correlations.now a.plan.clen a.plan.codes (fits a c.requires))

pub write_words-requires : goal.write_words-requires
write_words-requires c =
    let a = c.args.self.now in
    (omega arith, room-words a.correlations.now a.plan.clen a.plan.codes (fits a c.requires) (omega arith))

pub write_each-requires-else-self-lt8 : goal.write_each-requires-else-self-lt8
write_each-requires-else-self-lt8 c =
    let a = c.args.self.now in
    (omega arith, omega (arith, room-last a.correlations.now a.plan.clen a.plan.codes (fits a c.requires) (omega arith)))

pub returns-else-self-lt8 : goal.returns-else-self-lt8
returns-else-self-lt8 c =
    let a = c.args.self.now in
    words-each a.correlations.now a.plan.clen c.args.out.now a.plan.codes a.fits.codable.clen (length a.correlations.now - 7) (omega arith)
    c.write_words.ensures c.write_each-else-self-lt8.ensures
