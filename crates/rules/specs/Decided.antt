-- What the rules decide of a pack: where its elements start, and how its deviations are read.
use Rattle.std.specs.Prelude.{ℕ, List, Err, Ok, Result, Option}
use Rattle.answers.specs.Listed.{listed}
use Rattle.answers.specs.Outcome.{Outcome, found, refused, unless}
use Rattle.answers.specs.Table.{Answer}
use Rattle.answers.specs.declared.Refusal.{Refusal}
use Rattle.layout.specs.Header.{control_of}
use Rattle.layout.specs.declared.control.ParseControl.{ParseControl}
use Rattle.elements.specs.declared.head.Places.{Places}
use Rattle.elements.specs.Elements.{head_of, places_of}
use Rattle.deviations.specs.declared.form.DeviationRange.{DeviationRange}
use Rattle.deviations.specs.Range.{row_part}
use Rattle.deviations.specs.Form.{Form, form_listed, form_of, form_format}
use Rattle.rules.specs.declared.decide.Decided.{Decided}
use Rattle.rules.specs.Rules.{in_turn, pack_rules}

pub record Ready : Type 0 where
  pub places : Places
  pub form : Form

abbrev pub ready : Places → Form → Ready
ready p f = record { places = p; form = f }

abbrev pub decided_listed : Result Decided Refusal → Outcome Ready
decided_listed (Ok d) = found (ready d.places (form_listed d.form))
decided_listed (Err r) = refused (listed r)

abbrev pub ready_of : Option DeviationRange → List ℕ → Ready
ready_of range bytes = ready (places_of (head_of bytes)) (form_of range (control_of bytes))

abbrev pub decided : Option DeviationRange → List ℕ → Outcome Ready
decided range bytes = unless (pack_rules range bytes) (ready_of range bytes)

-- rule h), by the form that the deviations are read in
abbrev pub form_rule : List ℕ → ℕ → ParseControl → Form → ℕ → Answer
form_rule bytes at c f count = in_turn bytes at c.slen (λ i. form_format f c i (row_part bytes at c i)) count
