-- The range that is lent, and rules a) to k), in their order: the first that refuses decides.
-- Assumes nothing.
use mathlib.Core.Path.{◌≡◌, sym, ap, ◌∙◌}
use mathlib.Core.List.{List}
use Prim.Native.Nat.{ℕ}
use Rattle.std.specs.Prelude.{Option}
use Rattle.answers.specs.Listed.{listed}
use Rattle.answers.specs.Outcome.{found, refused}
use Rattle.answers.specs.Table.{Answer, next}
use Rattle.answers.specs.declared.Refusal.{Refusal}
use Rattle.answers.proofs.Next.{next-passed}
use Rattle.answers.proofs.OneToOne.{refused-not-done}
use Rattle.answers.proofs.Outcome.{found-where, refused-where}
use Rattle.layout.specs.declared.rule.Rule.{Rule}
use Rattle.layout.specs.Ruled.{Ruled, passed, refused_by, unnamed}
use Rattle.layout.specs.Size.{fit_rules, fit_ruled}
use Rattle.elements.specs.declared.head.Places.{Places}
use Rattle.elements.specs.Elements.{head_of, places_of, deviation_count}
use Rattle.elements.specs.Listed.{pack, verdict}
use Rattle.elements.specs.Listed as opened
use Rattle.elements.proofs.Opened.{pack-tells, refused-tells, opened-fits}
use Rattle.deviations.specs.declared.form.DeviationRange.{DeviationRange}
use Rattle.deviations.specs.Range.{lent_rule}
use Rattle.deviations.specs.Form.{Form, form_of}
use Rattle.rules.specs.Decided.{ready, ready_of, decided, form_rule}
use Rattle.rules.specs.Rules.{element_ruled, element_rules, pack_rules}
use Rattle.rules.proofs.Decided.{by_form}

module _ (range : Option DeviationRange) (bytes : List ℕ) where
  -- a bad range comes before all
  pub first : (r : Refusal) → listed r ≡ lent_rule range → refused (listed r) ≡ decided range bytes
  first r e = refused-where (pack_rules range bytes) (ready_of range bytes) r (rw (← e, refused-not-done r))

  module _ (z : (lent_rule range).number ≡ 0) where
    pub early : {x : Rule} (r : Refusal) → opened.refused x (listed r) ≡ verdict bytes (fit_ruled bytes) → refused (listed r) ≡ decided range bytes
    early r e =
        refused-where (pack_rules range bytes) (ready_of range bytes) r
        (rw (z, refused-tells bytes (fit_ruled bytes) e, refused-not-done r))

    module _ {p : Places} (o : pack p ≡ verdict bytes (fit_ruled bytes)) where
      is : p ≡ places_of (head_of bytes)
      is = (pack-tells bytes (fit_ruled bytes) o).1

      abbrev h : Answer
      h = form_rule bytes p.deviations p.head.control (form_of range p.head.control) (deviation_count p.head)

      left : pack_rules range bytes ≡ unnamed (element_ruled h bytes p.head)
      left =
          next-passed (lent_rule range) (next (fit_rules bytes) (element_rules range bytes (head_of bytes))) z
          ∙ next-passed (fit_rules bytes) (element_rules range bytes (head_of bytes)) (opened-fits bytes o)
          ∙ rw (is, by_form range bytes (places_of (head_of bytes)).deviations (head_of bytes).control z (deviation_count (head_of bytes)))

      whole : {u : Ruled} → u ≡ element_ruled h bytes p.head → pack_rules range bytes ≡ unnamed u
      whole e = left ∙ sym (ap unnamed e)

      pub later : {x : Rule} (r : Refusal) → refused_by x (listed r) ≡ element_ruled h bytes p.head → refused (listed r) ≡ decided range bytes
      later r e = refused-where (pack_rules range bytes) (ready_of range bytes) r (whole e)

      pub all_pass : (f : Form) → f ≡ form_of range p.head.control → passed ≡ element_ruled h bytes p.head → found (ready p f) ≡ decided range bytes
      all_pass f k e =
          rw (k, is) (found-where (pack_rules range bytes) (ready_of range bytes) (ap (λ (x : Answer). x.number) (whole e)))
