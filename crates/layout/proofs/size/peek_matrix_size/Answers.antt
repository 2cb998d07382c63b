-- `size::peek_matrix_size` meets its contract.
use mathlib.Core.Path.{◌≡◌, sym, ap, ◌∙◌}
use mathlib.Core.List.{List}
use Prim.Native.Nat.{ℕ}
use native.Mathlib.Omega.{arith}
use Rattle.std.specs.Prelude.{Err, None, Ok, Result, ⊤}
use Rattle.std.specs.Result.{result_ok}
use Rattle.answers.proofs.OneToOne.{refused-not-done}
use Rattle.layout.specs.declared.rule.Broken.{Broken}
use Rattle.layout.specs.Size.{fit_rules, peeked}
use Rattle.layout.specs.Ruled.{ruled, unnamed}
use Rattle.layout.proofs.Peek.{fit_is, handed-on}
use Rattle.layout.proofs.size.peek_matrix_size.Goals as goal

-- a rule that refuses gives nothing
refused : (bytes : List ℕ) (r : Result ⊤ Broken) → result_ok r ≡ None → unnamed (ruled r) ≡ fit_rules bytes → None ≡ peeked bytes
refused bytes (Ok _) n e = absurd (let z : ◌≡◌ {A = ℕ} 0 1 = cc in omega arith)
refused bytes (Err b) n e = rw (← e, refused-not-done b.refusal)

pub returns-in_err-ok : goal.returns-in_err-ok
returns-in_err-ok c =
    let bytes = c.args.bytes.now in
    let read = handed-on c.header_behind.result (sym c.ok.ensures.value ∙ c.in_ok-head.was) in
    let fits = c.check_matrix_size_fits.ensures ∙ sym (fit_is bytes (read ∙ c.header_behind.ensures)) in
    c.from_residual-in_err-ok.ensures ∙ refused bytes _ (sym c.ok-2.ensures.value ∙ c.in_err-ok.was) (ap unnamed fits)
