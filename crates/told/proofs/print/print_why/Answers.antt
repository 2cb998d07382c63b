-- `print::print_why` meets its contract: there is room for any text, or nothing is stored.
use native.Mathlib.Omega.{arith}
use Rattle.std.proofs.Common.{rules}
use Rattle.text.proofs.Adding.{put_opened}
use Rattle.lines.proofs.Printed.{print-whole}
use Rattle.told.specs.Printed.{room, printed}
use Rattle.told.proofs.Fits.{printed-fits}
use Rattle.told.proofs.print.print_why.Goals as goal

pub returns : goal.returns
returns c =
    let a = c.args in
    print-whole room (printed a.bytes.now) a.out.now (omega arith) (printed-fits a.bytes.now)
    (put_opened c.new-page.ensures c.put_printed.ensures c.place.ensures (search rules))
