-- `Page::bits` meets its contract: the digits behind the space.
use Rattle.text.specs.Text.{hex}
use Rattle.text.proofs.Adding.{adds_then}
use Rattle.text.proofs.page.Page.bits.Goals as goal

pub returns : goal.returns
unfolding hex
returns c = adds_then c.byte.ensures c.hex.ensures
