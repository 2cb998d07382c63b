-- `check::break_in` meets its contract: the room is the header of the file's own N, and the file is held to it.
use mathlib.Core.Path.{◌∙◌}
use Rattle.npy_header.specs.Header.{break_in}
use Rattle.npy_header.proofs.Headers.{header-filled}
use Rattle.npy_header.proofs.check.break_in.Goals as goal

pub returns : goal.returns
unfolding break_in
returns c =
    let n = c.size_in.ensures in
    let room = c.room_of-header in
    let e = c.put_header.ensures ∙ header-filled c.size_in.result n.1 room.result room.ensures.long in
    rw (e, n.0) at c.first_break.ensures
