-- `Page::hex` meets its contract: each turn adds the highest digit that is left.
use Rattle.std.proofs.Common.{◌≡◌, suc, ◌-◌, arith, [], ◌∷◌}
use Rattle.text.proofs.Figures.{hex-more}
use Rattle.text.proofs.Adding.{owes-more, owes-done}
use Rattle.text.proofs.page.Page.hex.Goals as goal

pub loop-behind-preserved : goal.loop-behind-preserved
loop-behind-preserved c =
    let k = c.loop-behind.behind - 1 in
    let e : c.loop-behind.behind ≡ suc k = omega arith in
    owes-more {x = c.hex_digit.result ∷ []} (rw (e, hex-more k c.args.value, ← c.hex_digit.ensures) at c.loop-behind.invariant)
    c.byte.ensures

pub returns : goal.returns
returns c =
    let e : c.loop-behind.behind ≡ 0 = omega arith in
    owes-done (rw e at c.loop-behind.invariant)
