-- `header::pad` meets its contract: spaces up to the last byte, and the newline stands behind them.
use Prim.Native.Nat.{◌-◌}
use native.Mathlib.Omega.{arith}
use Rattle.npy_header.proofs.Filled.{filled}
use Rattle.npy_header.proofs.Headers.{padded}
use Rattle.npy_header.proofs.header.pad.Goals as goal

pub returns : goal.returns
returns c =
    let a = c.args in
    padded a.at a.out.now c.requires.0 (filled a.at (127 - a.at) 0x20 a.out.now (omega (arith, c.requires.0, c.requires.1)) (c.fill.ensures.after (λ y h. h)))
