-- No text is longer than the room that is asked for.
-- Assumes nothing.
use mathlib.Core.Path.{◌≡◌, refl}
use mathlib.Core.Bool.{true, false}
use mathlib.Core.List.{List, ◌++◌}
use Prim.Native.Nat.{ℕ, suc, ◌+◌, ◌*◌, ◌≤◌}
use native.Mathlib.Nat.{mul-le-mul}
use native.Mathlib.Omega.{arith}
use lib.ListN.{length, get_or, length-append}
use Rattle.std.specs.Prelude.{Ok}
use Rattle.answers.specs.Listed.{written}
use Rattle.answers.specs.Table.{Answer}
use Rattle.answers.proofs.Rules.{picked}
use Rattle.layout.specs.declared.control.ParseControl.{ParseControl}
use Rattle.layout.specs.declared.rule.Rule.{Rule}
use Rattle.layout.specs.Control.{mode1, mode2}
use Rattle.layout.specs.Header.{control_at, said_size, is_mode2, control_of}
use Rattle.layout.specs.Ruled.{Ruled, passed, refused_by}
use Rattle.layout.specs.Triangle.{slots_of}
use Rattle.layout.proofs.RowByRow.{slots-mono}
use Rattle.elements.specs.Elements.{head_of}
use Rattle.elements.proofs.Opened.{passed-fits}
use Rattle.rules.specs.Named.{pack_ruled}
use Rattle.rules.proofs.Refused.{none-refuses}
use Rattle.told.proofs.Refused.{read-refused}
use Rattle.explain.specs.Spans.{elements_of}
use Rattle.explain.specs.Explained.{place_of, explained_by, explained}
use Rattle.explain.proofs.Ends.{fit-passes}
use Rattle.text.specs.Text.{ascii, newline, decimal, named}
use Rattle.text.proofs.Figures.{longest-decimal}
use Rattle.lines.specs.Printed.{print_answer}
use Rattle.lines.proofs.Printed.{print-within}
use Rattle.parts.specs.Parts.{elements_text}
use Rattle.parts.proofs.Fits.{elements-length}
use Rattle.reasons.proofs.Fits.{reason-length}
use Rattle.accounts.specs.Account.{slots_text, accepted_text, telling_text, account_text}
use Rattle.accounts.proofs.Fits.{slots_length}
use Rattle.report.specs.Printed.{max_rows, max_slots, is_too_big}
use Rattle.report.proofs.Fits.{few-read}
use Rattle.report.proofs.Done.{most-slots, small-rows}
use Rattle.told.specs.Printed.{printed, room}

-- a refusal carries three numbers at most
few : (bytes : List ℕ) {x : Rule} {a : Answer} → pack_ruled bytes ≡ refused_by x a → length a.carries ≤ 3
few bytes e = rw (read-refused bytes 0 0 0 e) at (few-read bytes 0 0 0).most

-- a code has 15 bytes at most
short-codes : (bytes : List ℕ) → (control_of bytes).clen ≤ 15
short-codes bytes =
    let b = get_or bytes (control_at bytes) 0 in
    picked (λ (c : ParseControl). c.clen ≤ 15) (is_mode2 bytes) (mode2 b (get_or bytes (suc (control_at bytes)) 0)) (mode1 b)
    (λ _. omega arith) (λ _. omega arith)

module _ (bytes : List ℕ) (ok : is_too_big bytes ≡ false) where
  -- a pack that is accepted has few slots
  accepted-fits : pack_ruled bytes ≡ passed → length (accepted_text true bytes (head_of bytes) (elements_of bytes)) ≤ 285000
  accepted-fits e =
      let rows = small-rows bytes ok (passed-fits bytes (fit-passes bytes (λ y _. none-refuses bytes e y))) in
      let m : slots_of (said_size bytes) ≤ max_slots = rw most-slots at (slots-mono {m = said_size bytes} {n = max_rows} rows) in
      let front = named (ascii "accepted ") (length bytes) in
      let places = elements_text true (elements_of bytes) in
      omega (
        arith,
        length-append (front ++ places) (slots_text true bytes (head_of bytes)),
        length-append front places,
        length-append (ascii "accepted ") (decimal (length bytes)),
        longest-decimal (length bytes),
        elements-length true (elements_of bytes),
        slots_length true bytes (head_of bytes),
        mul-le-mul {n₁ = slots_of (said_size bytes)} {m₁ = 111 + 2 * (control_of bytes).clen} {n₂ = max_slots} {m₂ = 141} m (omega (arith, short-codes bytes)),
      )

  account-fits : length (account_text true bytes) ≤ 285000
  unfolding account_text explained
  account-fits = go (pack_ruled bytes) refl
    where
      go : (u : Ruled) → pack_ruled bytes ≡ u → length (telling_text true bytes (explained_by bytes u)) ≤ 285000
      go passed e = accepted-fits e
      go (refused_by x a) e = omega (arith, reason-length bytes x (place_of bytes x) a (few bytes e))

pub printed-fits : (bytes : List ℕ) → length (printed bytes) ≤ room
unfolding printed
printed-fits bytes =
    picked (λ (t : List ℕ). length t ≤ room) (is_too_big bytes) _ (account_text true bytes ++ newline) (λ _. omega arith)
    (λ f. rw length-append (omega (arith, account-fits bytes f)))

-- the length that is answered is within the room
pub done-within : (bytes : List ℕ) (got : ℕ) {k : ℕ} → written (Ok k) ≡ print_answer room (printed bytes) got → k ≤ room
done-within bytes got = print-within room (printed bytes) got (printed-fits bytes)
