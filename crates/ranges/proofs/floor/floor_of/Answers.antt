-- `floor::floor_of` meets its contract, by the laws of `Falls`.
use Rattle.std.proofs.Common.{◌≡◌, ℕ, pos, ap, ◌∙◌, arith}
use lib.Ieee.{binary64, of_int}
use Rattle.ranges.proofs.Falls.{whole_of, More, reaches, falls-more, falls-whole}
use Rattle.ranges.proofs.floor.floor_of.Goals as goal
use Rattle.ranges.proofs.floor.floor_of.Goals.{After-nearest_u64_to_f64-above, Then-x-above}

-- the number without its fraction
above : (c : After-nearest_u64_to_f64-above) → c.nearest_u64_to_f64-above.result ≡ of_int binary64 (pos (whole_of c.args.x))
above c = c.nearest_u64_to_f64-above.ensures ∙ ap (λ (n : ℕ). of_int binary64 (pos n)) c.truncating_f64_to_u64-whole.ensures

more : (c : Then-x-above) → More c.args.x
more c = falls-more c.requires (rw (above c.before) at c.if-x-above.true)

pub truncating_f64_to_u64-whole-requires-clause-lower_bound : goal.truncating_f64_to_u64-whole-requires-clause-lower_bound
truncating_f64_to_u64-whole-requires-clause-lower_bound c = (reaches c.requires).0

pub truncating_f64_to_u64-whole-requires-clause-upper_bound : goal.truncating_f64_to_u64-whole-requires-clause-upper_bound
truncating_f64_to_u64-whole-requires-clause-upper_bound c = (reaches c.requires).1

pub overflow_add-whole : goal.overflow_add-whole
overflow_add-whole c = rw c.truncating_f64_to_u64-whole.ensures (omega (arith, (more (goal.at.overflow_add-whole c).Then-x-above).0))

pub returns-then-x-above : goal.returns-then-x-above
returns-then-x-above c = rw (c.nearest_u64_to_f64.ensures, c.truncating_f64_to_u64-whole.ensures) (more (goal.at.returns-then-x-above c).Then-x-above).1

pub returns-else-x-above : goal.returns-else-x-above
returns-else-x-above c = rw (above (goal.at.returns-else-x-above c).After-nearest_u64_to_f64-above) (falls-whole c.requires (rw (above (goal.at.returns-else-x-above c).After-nearest_u64_to_f64-above) at c.if-x-above.false))
