-- No second answer meets the contract of `round_trip`: two that do are the same, with what they leave in lent memory.
-- Assumes nothing.
use mathlib.Core.Path.{sym, ◌∙◌}
use Rattle.answers.specs.OneAnswer.{OneAnswer}
use Rattle.trip.specs.Tripped.{Lent}
use Rattle.trip.proofs.round_trip.round_trip.Reads as round_trip

pub round-trip-one : OneAnswer {L = Lent} round_trip.Learnt
    (λ κs s. record { pack = s.1.1.1.0.now; deviations = s.1.1.1.1.0.now; correlations = s.1.1.1.1.1.0.now; states = s.1.1.1.1.1.1.0.now })
round-trip-one κs a r r' s s' p q = (p.answers ∙ sym q.answers, p.leaves ∙ sym q.leaves)
