-- `special::payload_of` meets its contract.
use Prim.Native.Nat.{◌-◌, ◌*◌}
use native.Mathlib.Omega.{arith}
use Rattle.imapb.proofs.Length.{top-cut}
use Rattle.imapb.proofs.special.payload_of.Goals as goal

pub returns-in-AboveMax : goal.returns-in-AboveMax
returns-in-AboveMax c = let n = c.args.length.bytes in rw (c.top_code.ensures, c.in-AboveMax.is) (top-cut n 7 (8 * n - 8) (omega (arith, c.args.length.least)))
