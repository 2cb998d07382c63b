-- `decode::overflow_signal` meets its contract.
use mathlib.Core.Path.{◌≡◌, ◌∙◌}
use Prim.Native.Nat.{◌-◌, ◌*◌, ◌/◌, ◌^◌}
use native.Mathlib.Omega.{arith}
use borrow.Author.Tests.{eq-eqb, ne_eqb}
use Rattle.imapb.proofs.Length.{top-cut}
use Rattle.imapb.proofs.decode.overflow_signal.Goals as goal
use Rattle.imapb.proofs.decode.overflow_signal.Goals.{Start}

-- the byte E1 and zeros
above : (s : Start) → let m = s.args.mapping in m.top / 128 ≡ 2 ^ (8 * m.length - 8)
above s = let m = s.args.mapping in rw m.top_is (top-cut m.length 7 (8 * m.length - 8) (omega (arith, m.least)))

pub returns-then-payload-mapping : goal.returns-then-payload-mapping
returns-then-payload-mapping c =
    let s = (goal.at.returns-then-payload-mapping c).Start in rw (ne_eqb s.args.payload 0 c.if-payload-eq0.false, eq-eqb s.args.payload _ (c.if-payload-mapping.true ∙ above s))

pub returns-else-payload-mapping : goal.returns-else-payload-mapping
returns-else-payload-mapping c =
    let s = (goal.at.returns-else-payload-mapping c).Start in rw (ne_eqb s.args.payload 0 c.if-payload-eq0.false, ne_eqb s.args.payload _ (rw (above s) at c.if-payload-mapping.false))
