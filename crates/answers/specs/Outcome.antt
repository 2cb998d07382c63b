-- What was asked for, or the answer of the rule that refuses it.
use Rattle.std.specs.Prelude.{eqb}
use Rattle.answers.specs.Table.{Answer, pick}

pub data Outcome (A : Type 0) : Type 0 where
  found : A → Outcome A
  refused : Answer → Outcome A

-- what was asked for where the rules refuse nothing
abbrev pub unless : {A : Type 0} → Answer → A → Outcome A
unless rules a = pick (eqb rules.number 0) (found a) (refused rules)
