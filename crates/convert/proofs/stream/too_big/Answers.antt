-- `stream::too_big` meets its contract: the line stands at the front of what was lent.
use Rattle.std.proofs.Common.{rules}
use Rattle.text.proofs.Adding.{put_opened}
use Rattle.convert.proofs.Made.{streams-text}
use Rattle.convert.proofs.stream.too_big.Goals as goal

pub returns : goal.returns
returns c =
    streams-text (put_opened c.new-page.ensures c.text.ensures c.place.ensures (search rules))
