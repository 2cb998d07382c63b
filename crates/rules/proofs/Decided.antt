-- Rules h) to k) as the reader decides them: h) by the form of the deviations, it and j) by their first element.
-- Assumes nothing.
use mathlib.Core.Path.{◌≡◌, refl}
use mathlib.Core.Bool.{Bool, true, false, not, ◌||◌, and-false}
use mathlib.Core.List.{List, [], ◌∷◌}
use mathlib.Core.Logic.{inl, inr}
use Prim.Native.Nat.{ℕ, zero, suc, ◌+◌, ◌-◌, ◌*◌, ◌≤◌, ◌<◌}
use native.Mathlib.Nat.{mul-zero}
use native.Mathlib.Omega.{arith}
use borrow.Author.Tests.{lt-ltb, le-ltb, ne_eqb}
use lib.Dec.{eqb}
use lib.ListN.{length}
use Rattle.std.specs.Prelude.{Option}
use Rattle.answers.specs.Table.{Answer, answer, short, wholes, pick, passes}
use Rattle.imapb.specs.Tables.{supported}
use Rattle.layout.specs.declared.control.ParseControl.{ParseControl}
use Rattle.layout.specs.declared.header.Head.{Head}
use Rattle.elements.specs.Elements.{codes_at, present_count, is_ieee, ieee, part, code_slot}
use Rattle.rules.specs.Turns.{turns_rule}
use Rattle.elements.specs.Numbers.{refusal_of}
use Rattle.elements.specs.Slots.{present_read}
use Rattle.elements.specs.Formats.{deviation_format, code_format}
use Rattle.deviations.specs.declared.form.DeviationRange.{DeviationRange}
use Rattle.deviations.specs.Range.{lent_rule, format_over, row_part}
use Rattle.deviations.specs.Form.{plain, form_of, form_number}
use Rattle.deviations.proofs.Formed.{form-rule}
use Rattle.rules.specs.Decided.{form_rule}
use Rattle.rules.specs.Rules.{in_turn, codes_rule, rule_j}
use Rattle.rules.proofs.InTurn.{Format, in-turn}

-- ---- rule i), as the reader tests it
module _ (c : ParseControl) (present left : ℕ) where
  pub codes_all : c.cs ≡ false → passes ≡ codes_rule c present left
  codes_all e = rw e

  pub codes-short : c.cs ≡ true → left < present * c.clen → short (present * c.clen) left ≡ codes_rule c present left
  codes-short e h = rw (e, ne_eqb c.clen 0 (λ z. omega (arith, rw (z, mul-zero present) at h)), lt-ltb left (present * c.clen) h)

  pub codes-there : c.cs ≡ true → present * c.clen ≤ left → passes ≡ codes_rule c present left
  codes-there e h = rw (e, le-ltb left (present * c.clen) h, and-false (not (eqb c.clen 0)))

-- a format is refused, or passes
either : (b : Bool) (x y : Answer) → Format x → Format y → Format (pick b x y)
either true x y p q = p
either false x y p q = q

pub deviation-format : (c : ParseControl) → Format (deviation_format c)
deviation-format c = either (c.sf || not (is_ieee c.slen)) (answer 2 (wholes (0 ∷ c.slen ∷ []))) passes (inr refl) (inl refl)

pub code-format : (c : ParseControl) → Format (code_format c)
code-format c =
    either c.cf (pick (supported c.clen) passes (answer 4 (wholes (c.clen ∷ [])))) (pick (is_ieee c.clen) passes (answer 2 (wholes (0 ∷ c.clen ∷ []))))
    (either (supported c.clen) passes (answer 4 (wholes (c.clen ∷ []))) (inl refl) (inr refl))
    (either (is_ieee c.clen) passes (answer 2 (wholes (0 ∷ c.clen ∷ []))) (inl refl) (inr refl))

-- rule h) by the form that is worked out of a range and a control
pub by_form : (range : Option DeviationRange) (bytes : List ℕ) (at : ℕ) (c : ParseControl) → (lent_rule range).number ≡ 0 → (n : ℕ)
    → form_rule bytes at c (form_of range c) n
    ≡ in_turn bytes at c.slen (λ i. format_over range c i (row_part bytes at c i)) n
by_form range bytes at c z zero = refl
by_form range bytes at c z (suc n) = rw (by_form range bytes at c z n, form-rule bytes (at + n * c.slen) c n range z)

-- as the pack says: by the first deviation
pub by-first-deviation : (bytes : List ℕ) (at : ℕ) (c : ParseControl) (n : ℕ)
    → form_rule bytes at c plain n ≡ turns_rule (refusal_of (form_number bytes at c plain 0)) n c.slen (length bytes - at)
by-first-deviation bytes at c n =
    in-turn bytes at c.slen (deviation_format c) (deviation-format c) n (ieee c.slen (part bytes at c.slen))

module _ (bytes : List ℕ) (h : Head) where
  pub by-first-code : rule_j bytes h
      ≡ turns_rule (refusal_of (present_read bytes (codes_at h) h.control)) (present_count bytes h) h.control.clen (length bytes - codes_at h)
  by-first-code =
      in-turn bytes (codes_at h) h.control.clen (code_format h.control) (code-format h.control) (present_count bytes h)
      (code_slot h.control (part bytes (codes_at h) h.control.clen))
