-- Rules one behind the other, by name: all pass, or the first that does not refuses, with its answer.
use Rattle.std.specs.Prelude.{eqb, Err, Ok, Result, ⊤}
use Rattle.answers.specs.Table.{Answer, pick, passes}
use Rattle.answers.specs.Listed.{listed}
use Rattle.layout.specs.declared.rule.Rule.{Rule}
use Rattle.layout.specs.declared.rule.Broken.{Broken}

pub data Ruled : Type 0 where
  passed : Ruled
  refused_by : Rule → Answer → Ruled

abbrev pub ruled : Result ⊤ Broken → Ruled
ruled (Ok _) = passed
ruled (Err b) = refused_by b.rule (listed b.refusal)

-- what rule x answers, and behind it what counts where it does not refuse
abbrev pub named : Rule → Answer → Ruled → Ruled
named x a behind = pick (eqb a.number 0) behind (refused_by x a)

-- rules, and behind them others
abbrev pub behind : Ruled → Ruled → Ruled
behind passed u = u
behind (refused_by x a) u = refused_by x a

-- the answer, without the name
abbrev pub unnamed : Ruled → Answer
unnamed passed = passes
unnamed (refused_by x a) = a
