-- `written::put_written` meets its contract: the reply, the bytes and the end stand behind each other.
use mathlib.Core.Path.{◌≡◌, refl, ap, ◌∙◌}
use Prim.Native.Nat.{ℕ, min}
use lib.ListN.{length}
use Rattle.std.specs.Prelude.{Result, Ok, Err}
use Rattle.std.specs.Result.{result_unwrap_or}
use Rattle.answers.specs.declared.Refusal.{Refusal}
use Rattle.text.proofs.Adding.{adds_then}
use Rattle.shown.specs.Written.{used_by}
use Rattle.shown.proofs.written.put_written.Goals as goal

used : (w : Result ℕ Refusal) → result_unwrap_or w 0 ≡ used_by w
used (Ok count) = refl
used (Err r) = refl

pub returns : goal.returns
returns c =
    let lent = c.args.lent.now in
    let filled = c.within-count.ensures.value ∙ ap (λ (n : ℕ). min n (length lent)) (c.unwrap_or.ensures ∙ used c.args.written) in
    rw (← filled, ← c.changed-touched.ensures, ← c.of_written.ensures)
    (adds_then (adds_then c.put_reply.ensures c.put_bytes.ensures) c.put_touched.ensures)
