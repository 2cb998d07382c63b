-- `header::header_behind` meets its contract.
use native.Mathlib.Omega.{arith}
use Rattle.layout.proofs.Rules.{no-control, one_byte, no_second, two_bytes}
use Rattle.layout.proofs.header.header_behind.Goals as goal

pub returns-then-bytes-taken : goal.returns-then-bytes-taken
returns-then-bytes-taken c = no-control c.args.bytes.now c.requires (omega arith)

pub returns-then-first-lt128 : goal.returns-then-first-lt128
returns-then-first-lt128 c =
    rw c.parse_mode1.ensures (one_byte c.args.bytes.now c.requires (omega arith) (omega arith))

pub returns-then-bytes-taken-lt2 : goal.returns-then-bytes-taken-lt2
returns-then-bytes-taken-lt2 c = no_second c.args.bytes.now c.requires (omega arith) (omega arith)

pub returns : goal.returns
returns c =
    rw c.parse_mode2.ensures (two_bytes c.args.bytes.now c.requires (omega arith) (omega arith))
