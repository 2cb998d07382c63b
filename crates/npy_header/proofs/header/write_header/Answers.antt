-- `header::write_header` meets its contract: N, the room, and then the header.
use mathlib.Core.Path.{sym, ◌∙◌}
use lib.ListN.{length}
use Rattle.answers.proofs.Stored.{sets_over}
use Rattle.npy_header.specs.Header.{header}
use Rattle.npy_header.proofs.Headers.{length-header, header-passes}
use Rattle.npy_header.proofs.header.write_header.Goals as goal

pub returns : goal.returns
returns c =
    let a = c.args in
    let few = c.if-n-gt-MAX_SIZE.false in (
      sym (header-passes a.n (length a.out.now) few c.if-out-lt-HEADER_LENGTH.false),
      c.put_header.ensures ∙ sets_over (header a.n) a.out.now (rw (length-header a.n few) c.if-out-lt-HEADER_LENGTH.false),
    )
