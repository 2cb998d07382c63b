-- `account::put_accepted` meets its contract: one piece behind the other.
use mathlib.Core.Path.{sym, ap, ◌∙◌}
use Rattle.explain.specs.declared.spans.Elements.{Elements}
use Rattle.explain.proofs.Joined.{joined}
use Rattle.text.proofs.Adding.{adds_then}
use Rattle.accounts.proofs.Told.{told}
use Rattle.accounts.proofs.account.put_accepted.Goals as goal

pub put_slots-requires : goal.put_slots-requires
put_slots-requires c =
    let b = c.args.bytes.now in
    let e = c.requires.0 in
    (rw c.requires.1 (told b e), ap (λ (x : Elements). x.codes.start) c.requires.2 ∙ rw c.requires.1 (sym (joined b e).first))

pub returns : goal.returns
returns c = adds_then (adds_then c.named.ensures c.put_elements.ensures) c.put_slots.ensures
