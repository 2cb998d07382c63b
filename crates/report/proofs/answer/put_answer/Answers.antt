-- `answer::put_answer` meets its contract: what was read is put, or why it was not.
use native.Mathlib.Omega.{arith}
use Rattle.report.proofs.Done.{Lent, left, held, pack-lines}
use Rattle.report.proofs.answer.put_answer.Goals as goal
use Rattle.report.proofs.answer.put_answer.Goals.{After-decode_sdcc_flp-read}

-- what the reader has left
lent : (c : After-decode_sdcc_flp-read) → let a = c.args in
    Lent a.bytes.now a.deviations.now a.correlations.now a.states.now c.decode_sdcc_flp-read.result c.decode_sdcc_flp-read.new.deviations c.decode_sdcc_flp-read.new.correlations c.decode_sdcc_flp-read.new.states
lent c = record { meets = c.decode_sdcc_flp-read.ensures }

pub put_pack-requires : goal.put_pack-requires
put_pack-requires c =
    let v = (goal.at.put_pack-requires c).After-decode_sdcc_flp-read in held (lent v) c.in-Ok.is (omega arith) (omega arith) (omega arith)

pub returns-in-Ok : goal.returns-in-Ok
returns-in-Ok c =
    let u = (goal.at.returns-in-Ok c).After-decode_sdcc_flp-read in (rw (pack-lines (lent u) c.in-Ok.is) at c.put_pack.ensures, left (lent u))
