-- Document 01, "Writer's order": the last rule, and all that is refused.
use Rattle.std.specs.Prelude.{ℕ, List}
use Rattle.answers.specs.Table.{Answer, next, room_rule}
use Rattle.plan.specs.Places.{pack_plan}
use Rattle.plan.specs.Rules.{plan_rules}

-- output shorter than the pack, whose length is its plan's end: 5
abbrev pub slots_rules : ℕ → List ℕ → ℕ → ℕ → Answer
slots_rules n cs L room = next (plan_rules n cs L) (room_rule (pack_plan n cs L).end room)
