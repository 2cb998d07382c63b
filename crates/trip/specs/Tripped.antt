-- Writing and then reading back, for all numbers and rooms: the answer, what is left in what was lent, and demand 3.
use Rattle.std.specs.Prelude.{ℕ, ◌≤◌, ◌≡◌, Bool, true, List, eqb, length, take}
use Rattle.answers.specs.Table.{Answer, next}
use Rattle.answers.specs.Lent.{leaves}
use Rattle.elements.specs.Elements.{head_of, deviations, correlations, states}
use Rattle.reader.specs.Rules.{read_answer}
use Rattle.writer.specs.Pack.{pack_bytes}
use Rattle.writer.specs.Rules.{write_answer}
use Rattle.trip.specs.RoundTrip.{Sendable, Returned}

-- what is lent: for the pack, and for the deviations, the correlations and the states that come back
pub record Lent : Type 0 where
  pub pack : List ℕ
  pub deviations : List ℕ
  pub correlations : List ℕ
  pub states : List ℕ

abbrev pub lent_of : List ℕ → List ℕ → List ℕ → List ℕ → Lent
lent_of pack ds cs ss = record { pack = pack; deviations = ds; correlations = cs; states = ss }

module _ (ds cs : List ℕ) (L : ℕ) where
  -- room enough
  pub record Roomy (lent : Lent) : Type 0 where
    pub pack : length (pack_bytes ds cs L) ≤ length lent.pack
    pub deviations : length ds ≤ length lent.deviations
    pub correlations : length cs ≤ length lent.correlations
    pub states : length cs ≤ length lent.states

  -- the writer's answer where it refuses, and otherwise the reader's
  abbrev pub trip_answer : Lent → Answer
  trip_answer lent =
      next (write_answer ds cs L (length lent.pack))
      (read_answer (pack_bytes ds cs L) (length lent.deviations) (length lent.correlations)
      (length lent.states))

  -- what stands there afterwards
  abbrev pub left_by : Lent → Lent
  left_by lent =
      let bytes = pack_bytes ds cs L in
      let a = trip_answer lent in
      record {
        pack = leaves (write_answer ds cs L (length lent.pack)) bytes lent.pack;
        deviations = leaves a (deviations bytes (head_of bytes)) lent.deviations;
        correlations = leaves a (correlations bytes (head_of bytes)) lent.correlations;
        states = leaves a (states bytes (head_of bytes)) lent.states;
      }

  -- `lent` before and `left` after, with the answer r
  pub record Tripped (lent left : Lent) (r : Bool) : Type 0 where
    -- yes exactly where both writing and reading succeed
    pub answers : r ≡ eqb (trip_answer lent).number 0
    -- and for all numbers and rooms what is left is determined
    pub leaves : left ≡ left_by lent
    -- demand 3: what can be sent, with room enough, is answered yes, and what stands in what was lent is what was sent
    pub demand : Sendable ds cs L → Roomy lent
        → (r ≡ true)
        × Returned ds cs L (take (length ds) left.deviations) (take (length cs) left.correlations)
        (take (length cs) left.states)
