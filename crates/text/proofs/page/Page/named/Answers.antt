-- `Page::named` meets its contract: the number behind the text.
use Rattle.text.proofs.Adding.{adds_then}
use Rattle.text.proofs.page.Page.named.Goals as goal

pub returns : goal.returns
returns c = adds_then c.text.ensures c.decimal.ensures
