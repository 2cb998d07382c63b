-- What opening a pack answers, by the rules.
use Rattle.std.specs.Prelude.{ℕ, List, Err, Ok, Result}
use Rattle.answers.specs.Listed.{listed}
use Rattle.answers.specs.Table.{Answer}
use Rattle.layout.specs.declared.pack.SdccFlp.{SdccFlp}
use Rattle.layout.specs.declared.rule.Broken.{Broken}
use Rattle.layout.specs.declared.rule.Rule.{Rule}
use Rattle.layout.specs.Ruled.{Ruled, passed, refused_by}
use Rattle.layout.specs.Triangle.{slots_of}
use Rattle.layout.specs.declared.header.Head.{Head}
use Rattle.elements.specs.declared.head.Places.{Places}
use Rattle.elements.specs.Elements.{head_of, deviation_count, places_of}

-- what a pack of that head holds: N, the deviation count and M
abbrev pub pack_of : Head → SdccFlp
pack_of h = record { matrix_size = h.n; deviations = deviation_count h; slots = slots_of h.n }

-- where a pack's elements start, or the rule that refuses it, with its answer
pub data Verdict : Type 0 where
  pack : Places → Verdict
  refused : Rule → Answer → Verdict

abbrev pub opened_listed : Result Places Broken → Verdict
opened_listed (Ok p) = pack p
opened_listed (Err b) = refused b.rule (listed b.refusal)

-- the places of the bytes' elements where the rules pass, and the one that refuses where they do not
abbrev pub verdict : List ℕ → Ruled → Verdict
verdict bytes passed = pack (places_of (head_of bytes))
verdict bytes (refused_by x a) = refused x a
