-- `refusal::put_refused` meets its contract: the row holds what the refusal lists.
use mathlib.Core.Path.{subst}
use Rattle.answers.specs.Table.{Answer}
use Rattle.answers.proofs.Rows.{row-lists}
use Rattle.text.specs.Page.{Adds}
use Rattle.text.proofs.Adding.{adds_then}
use Rattle.lines.specs.Lines.{refused_text}
use Rattle.lines.proofs.refusal.put_refused.Goals as goal

pub returns : goal.returns
returns c =
    let a = c.args in
    subst (λ (x : Answer). Adds (refused_text x) a.page.now c.put_entries.new.page) (row-lists a.refusal)
    (rw c.row_of-row.ensures at (adds_then c.named.ensures c.put_entries.ensures))
