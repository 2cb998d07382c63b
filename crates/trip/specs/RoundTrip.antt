-- Demand 3: what is sent, written and read back, comes back as far as its formats keep it.
use Rattle.std.specs.Prelude.{ℕ, ◌-◌, ◌*◌, ◌^◌, ◌≤◌, ◌<◌, ◌≡◌, true, false, List, [], ◌∷◌, T, pos, length, get_or}
use Rattle.std.specs.Float.{fin, binary32, binary64}
use Rattle.std.specs.Float.Ieee.{of_bits, to_bits, eq}
use Rattle.std.specs.Float.Ieee.Scale.{finite}
use Rattle.answers.specs.Table.{answer, wholes, pick}
use Rattle.answers.specs.Lent.{tab}
use Rattle.numbers.specs.Conversions.{nearest}
use Rattle.imapb.specs.Mapping.{in_range}
use Rattle.imapb.specs.Precision.{Near}
use Rattle.layout.specs.Size.{max_rows}
use Rattle.layout.specs.Triangle.{slots_of}
use Rattle.elements.specs.Elements.{head_of, deviations, correlations, states}
use Rattle.reader.specs.Rules.{read_answer}
use Rattle.writer.specs.Pack.{form_bytes, is_sparse, pack_bytes}
use Rattle.writer.specs.Rules.{write_answer}

-- the bits of the binary64 that is the binary32 nearest to a deviation
abbrev pub rounding : ℕ → ℕ
rounding d = to_bits binary64 (nearest binary32 (of_bits binary64 d))

-- a correlation may come back 2^-53 above the one sent, and less than one step, 2^(2-8L), below it: both 2^1074-fold
abbrev pub above : ℕ
above = 2 ^ 1021

abbrev pub below : ℕ → ℕ
below L = 2 ^ (1076 - 8 * L)

abbrev pub NearTo : ℕ → ℕ → ℕ → Type 0
NearTo L c r = Near binary64 above (below L) (of_bits binary64 c) (of_bits binary64 r)

-- the deviations ds, the correlations cs, each a binary64 by its bits, and the length L of a code
module _ (ds cs : List ℕ) (L : ℕ) where
  pub record Sendable : Type 0 where
    -- 0 to 256 deviations
    pub rows : length ds ≤ max_rows
    -- each finite once rounded to binary32
    pub numbers : (i : ℕ) → i < length ds → T (finite (nearest binary32 (of_bits binary64 (get_or ds i 0))))
    -- N(N-1)/2 correlations
    pub slots : length cs ≡ slots_of (length ds)
    -- from -1 to 1
    pub ranged : (k : ℕ) → k < length cs → T (in_range (of_bits binary64 (get_or cs k 0)))
    -- a length of 1 to 6
    pub least : 1 ≤ L
    pub most : L ≤ 6

  -- the deviations, the correlations and the states that come back
  pub record Returned (ds' cs' ss' : List ℕ) : Type 0 where
    -- deviations come back as their binary32 roundings
    pub deviations : ds' ≡ tab (length ds) (λ i. rounding (get_or ds i 0))
    -- which as numbers they are
    pub values : (i : ℕ) → i < length ds
        → of_bits binary64 (get_or ds' i 0) ≡ nearest binary32 (of_bits binary64 (get_or ds i 0))
    -- as many correlations come back as were sent
    pub count : length cs' ≡ length cs
    -- each at most 2^-53 above the one sent and less than one step below it
    pub correlations : (k : ℕ) → k < length cs → NearTo L (get_or cs k 0) (get_or cs' k 0)
    -- sparse: exactly the nonzero correlations are present, each with state 1
    pub sparse : is_sparse ds cs L ≡ true
        → ss' ≡ tab (length cs) (λ k. pick (eq (of_bits binary64 (get_or cs k 0)) (fin false 0 (pos 0))) 0 1)
    -- full: all are, each with state 1
    pub full : is_sparse ds cs L ≡ false → ss' ≡ tab (length cs) (λ k. 1)

  pub record RoundTrip : Type 0 where
    -- with room enough writing succeeds, with the pack's length
    pub written : (room : ℕ) → length (pack_bytes ds cs L) ≤ room
        → write_answer ds cs L room ≡ answer 0 (wholes (length (pack_bytes ds cs L) ∷ []))
    -- with room enough reading the pack succeeds, with N, the deviation count and M
    pub read : (d c s : ℕ) → length ds ≤ d → length cs ≤ c → length cs ≤ s
        → read_answer (pack_bytes ds cs L) d c s ≡ answer 0 (wholes (length ds ∷ length ds ∷ length cs ∷ []))
    -- what was sent comes back
    pub back : Returned (deviations (pack_bytes ds cs L) (head_of (pack_bytes ds cs L)))
        (correlations (pack_bytes ds cs L) (head_of (pack_bytes ds cs L)))
        (states (pack_bytes ds cs L) (head_of (pack_bytes ds cs L)))
    -- the pack is never longer than its full form
    pub never-longer : length (pack_bytes ds cs L) ≤ length (form_bytes ds cs L false)
