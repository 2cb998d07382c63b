-- What came back, held to what was sent: an entry agrees where it is what its format keeps.
use Rattle.std.specs.Prelude.{ℕ, ◌≤◌, Bool, ◌&&◌, List, eqb, length, get_or}
use Rattle.answers.specs.Every.{every}
use Rattle.answers.specs.Table.{pick}
use Rattle.plan.specs.Rules.{InRange, Supported}
use Rattle.plan.specs.Zero.{is_zero}
use Rattle.trip.specs.Values.{deviation_kept, correlation_kept}

-- a deviation d that came back as r
abbrev pub deviation_agrees : ℕ → ℕ → Bool
deviation_agrees d r = eqb r (deviation_kept d)

abbrev pub deviations_agree : List ℕ → List ℕ → Bool
deviations_agree ds back = every (length ds) (λ i. deviation_agrees (get_or ds i 0) (get_or back i 0))

-- a slot c of L bytes that came back as r: with state 1 it is the value of its code, and one left out is 0 and reads
-- +0.0
abbrev pub slot_agrees : ℕ → ℕ → ℕ → ℕ → Bool
slot_agrees L c r state = pick (eqb state 1) (eqb r (correlation_kept L c)) (eqb state 0 && is_zero c && eqb r 0)

abbrev pub slots_agree : ℕ → List ℕ → List ℕ → List ℕ → Bool
slots_agree L cs back states = every (length cs) (λ k. slot_agrees L (get_or cs k 0) (get_or back k 0) (get_or states k 0))

-- all of them: the deviations ds and the correlations cs, that came back as ds', cs' and ss'
module _ (ds cs : List ℕ) (L : ℕ) (ds' cs' ss' : List ℕ) where
  abbrev pub numbers_agree : Bool
  numbers_agree = deviations_agree ds ds' && slots_agree L cs cs' ss'

  -- every entry came back, and every correlation has a code
  pub record Comparable : Type 0 where
    pub clen : Supported L
    pub values : InRange cs
    pub rows : length ds ≤ length ds'
    pub slots : length cs ≤ length cs'
    pub marks : length cs ≤ length ss'
