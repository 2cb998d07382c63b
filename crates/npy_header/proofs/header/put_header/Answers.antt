-- `header::put_header` meets its contract: the padding behind the description, which leaves room for it.
use Rattle.std.proofs.Common.{rules}
use Rattle.text.proofs.Adding.{put_opened}
use Rattle.npy_header.proofs.Headers.{described-room, header-stored}
use Rattle.npy_header.proofs.header.put_header.Goals as goal

pub pad-requires : goal.pad-requires
pad-requires c =
    described-room c.requires.0 c.requires.1 (put_opened c.new-page.ensures c.put_described.ensures c.place-at.ensures (search rules))

pub returns : goal.returns
returns c =
    header-stored c.requires.0 c.requires.1 (put_opened c.new-page.ensures c.put_described.ensures c.place-at.ensures (search rules)) c.pad.ensures
