-- Demand 1: every input has an answer of the table, and the answer and the lent memory are determined.
-- Assumes nothing.
use Rattle.trip.specs.Answered.{Answered}
use Rattle.trip.proofs.Answered.{answered}
use Rattle.trip.proofs.Determined.{Determined, determined}

pub record Demand1 : Type 2 where
  pub table : Answered
  pub single : Determined

pub demand-1 : Demand1
demand-1 = record { table = answered; single = determined }
