-- `Page::decimal` meets its contract: the last digit behind those before it.
use Rattle.std.proofs.Common.{arith}
use Rattle.text.proofs.Figures.{decimal-one, decimal-more}
use Rattle.text.proofs.Adding.{adds_then}
use Rattle.text.proofs.page.Page.+decimal.Goals as goal

pub returns-then-value-lt10 : goal.returns-then-value-lt10
returns-then-value-lt10 t c = rw (decimal-one c.args.value (omega arith), ← c.digit.ensures) c.byte.ensures

pub returns-else-value-lt10 : goal.returns-else-value-lt10
returns-else-value-lt10 t c =
    rw (decimal-more c.args.value (omega arith) (omega arith), ← c.digit-else-value-lt10.ensures)
    (adds_then c.decimal.ensures c.byte-else-value-lt10.ensures)
