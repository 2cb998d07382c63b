-- What the reader answers, by the rules.
use Rattle.std.specs.Prelude.{[], ◌∷◌, Err, Ok, Result}
use Rattle.answers.specs.Table.{Answer, answer, wholes}
use Rattle.answers.specs.Listed.{listed}
use Rattle.layout.specs.declared.pack.SdccFlp.{SdccFlp}
use Rattle.answers.specs.declared.Refusal.{Refusal}

abbrev pub pack_answer : SdccFlp → Answer
pack_answer p = answer 0 (wholes (p.matrix_size ∷ p.deviations ∷ p.slots ∷ []))

abbrev pub read_listed : Result SdccFlp Refusal → Answer
read_listed (Ok p) = pack_answer p
read_listed (Err r) = listed r
