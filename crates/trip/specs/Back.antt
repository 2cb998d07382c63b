-- Reading back what was written, once over both forms: done, and the lists that were written as far as their formats
-- keep them.
use Rattle.std.specs.Prelude.{ℕ, ◌≤◌, ◌<◌, ◌≡◌, Bool, List, [], ◌∷◌, T, length, get_or}
use Rattle.std.specs.Float.{binary64}
use Rattle.std.specs.Float.Ieee.{of_bits}
use Rattle.answers.specs.Table.{answer, wholes, pick}
use Rattle.answers.specs.Lent.{tab}
use Rattle.imapb.specs.Mapping.{in_range}
use Rattle.elements.specs.Elements.{head_of, deviations, correlations, states}
use Rattle.reader.specs.Rules.{read_answer}
use Rattle.slots.specs.Slots.{sent}
use Rattle.trip.specs.Values.{deviation_kept, correlation_kept}

pub record Back (ds cs : List ℕ) (L : ℕ) (sparse : Bool) (bytes : List ℕ) : Type 0 where
  -- with room enough the reader is done, with N, the deviation count and M
  pub answers : (d c s : ℕ) → length ds ≤ d → length cs ≤ c → length cs ≤ s
      → read_answer bytes d c s ≡ answer 0 (wholes (length ds ∷ length ds ∷ length cs ∷ []))
  pub deviations : deviations bytes (head_of bytes) ≡ tab (length ds) (λ i. deviation_kept (get_or ds i 0))
  -- where every correlation lies within -1 to 1
  pub states : ((k : ℕ) → k < length cs → T (in_range (of_bits binary64 (get_or cs k 0))))
      → states bytes (head_of bytes) ≡ tab (length cs) (λ k. pick (sent sparse cs k) 1 0)
  pub correlations : ((k : ℕ) → k < length cs → T (in_range (of_bits binary64 (get_or cs k 0))))
      → correlations bytes (head_of bytes)
      ≡ tab (length cs) (λ k. pick (sent sparse cs k) (correlation_kept L (get_or cs k 0)) 0)
