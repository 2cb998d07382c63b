-- The loop that fills the deviations: what a turn reads is there, so that no number is refused.
-- Assumes nothing.
use mathlib.Core.Path.{◌≡◌, sym, ap, ◌∙◌}
use mathlib.Core.List.{List}
use Prim.Native.Nat.{ℕ, ◌+◌, ◌*◌, ◌≤◌, ◌<◌}
use native.Mathlib.Nat.{suc-mul}
use native.Mathlib.Numerals.{add-one}
use native.Mathlib.Omega.{arith}
use lib.ListN.{length}
use Rattle.std.specs.Prelude.{Err, Ok, Result}
use Rattle.answers.specs.declared.Refusal.{Refusal}
use Rattle.answers.specs.Outcome.{Outcome, found}
use Rattle.answers.proofs.Outcome.{found-one, found-not-refused}
use Rattle.layout.specs.declared.control.ParseControl.{ParseControl}
use Rattle.elements.specs.Numbers.{number_listed}
use Rattle.elements.proofs.Parts.{element-held, ends}
use Rattle.deviations.specs.Range.{row_part}
use Rattle.deviations.specs.Form.{Form, form_format, form_number}
use Rattle.reader.specs.Rows.{RowsHeld, form_in}

-- what a turn has: the number that it reads, and where it moves on to
pub record Turn (bytes : List ℕ) (number : Outcome ℕ) (value moved next : ℕ) : Type 0 where
  pub read : number ≡ found value
  pub on : moved ≡ next
  pub within : moved ≤ length bytes

-- an answer that lists so holds that value, and no refusal
module _ {bytes : List ℕ} {number : Outcome ℕ} {value moved next : ℕ} (t : Turn bytes number value moved next) {a : Result ℕ Refusal} (e : number_listed a ≡ number) where
  pub turn-value : {x : ℕ} → a ≡ Ok x → x ≡ value
  turn-value h = found-one (sym (ap number_listed h) ∙ e ∙ t.read)

  pub turn-never : {r : Refusal} → a ≡ Err r → ⊥
  turn-never h = found-not-refused (sym (ap number_listed h) ∙ e ∙ t.read)

module _ (bytes : List ℕ) (at : ℕ) (c : ParseControl) (f : Form) where
  abbrev pub DeviationTurn : ℕ → ℕ → Type 0
  DeviationTurn i next = Turn bytes (form_number bytes next c f i) (form_in bytes at c f i) (next + c.slen) (at + (i + 1) * c.slen)

  pub deviation-turn : {count i next : ℕ} → RowsHeld bytes at c f count → i < count → next ≡ at + i * c.slen → DeviationTurn i next
  deviation-turn {i = i} h l e =
      let w : at + i * c.slen + c.slen ≤ length bytes = omega (arith, h.whole, ends at c.slen l) in
      rw (e, add-one)
      (record {
        read = element-held bytes (at + i * c.slen) c.slen (form_format f c i (row_part bytes at c i)) (form_in bytes at c f i) w (h.each i l);
        on = omega (arith, suc-mul i c.slen);
        within = w;
      })
