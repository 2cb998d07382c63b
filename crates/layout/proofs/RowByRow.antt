-- The slots run row by row, for every N; and how many there are.
-- Assumes nothing.
use mathlib.Core.Path.{◌≡◌, refl, sym, ap}
use mathlib.Core.Logic.{by_cases}
use Prim.Native.Nat.{ℕ, zero, suc, min, ◌+◌, ◌-◌, ◌*◌, ◌^◌, ◌≤◌, ◌<◌}
use native.Mathlib.Nat.{suc-mul, mul-suc, mul-le-mul, le_antisymm}
use native.Mathlib.Numerals.{add-one}
use native.Mathlib.Decide.{dec_lt, le_ind}
use native.Mathlib.Omega.{arith, by_contra}
use Rattle.layout.specs.Triangle.{slots_of, slot_of, IsPair, RowByRow}
use Rattle.layout.specs.Size.{max_rows, max_slots}

module _ (n : ℕ) where
  -- the slot at which row i starts
  abbrev start : ℕ → ℕ
  start zero = 0
  start (suc i) = start i + (n - 1 - i)

  start-mono : {i j : ℕ} → i ≤ j → start i ≤ start j
  start-mono {i} {j} = le_ind (λ j. start i ≤ start j) (omega arith) (λ j _ h. omega arith) j

  twice : (i : ℕ) → i ≤ n → i * (2 * n - i - 1) ≡ 2 * start i
  twice zero h = omega arith
  twice (suc i) h =
      let x = 2 * n - suc i - 1 in
      let e : 2 * n - i - 1 ≡ suc x = omega arith in
      omega (arith, suc-mul i x, mul-suc i x, rw e at (twice i (omega arith)))

  twice-all : n * (n - 1) ≡ 2 * start n
  twice-all = let e : 2 * n - n - 1 ≡ n - 1 = omega arith in rw e at (twice n (omega arith))

  slot_is : (i j : ℕ) → i ≤ n → slot_of n i j ≡ start i + (j - i - 1)
  unfolding slot_of
  slot_is i j h = omega (arith, twice i h)

  all-is : slots_of n ≡ start n
  unfolding slots_of
  all-is = omega (arith, twice-all)

  -- a slot of row i stands before each later row, and so before the end
  within : (i j k : ℕ) → IsPair n i j → i < k → slot_of n i j < start k
  within i j k p h = omega (arith, slot_is i j (omega arith), start-mono {i = suc i} {j = k} h)

  -- the row of a slot that stands before row k
  find : (s k : ℕ) → k ≤ n → s < start k → (i : ℕ) × (j : ℕ) × IsPair n i j × (slot_of n i j ≡ s)
  find s zero h l = absurd (omega arith)
  find s (suc k) h l =
      by_cases (dec_lt s (start k)) (find s k (omega arith))
      (λ m. let j = suc (k + (s - start k)) in (k, j, (omega arith, omega arith), omega (arith, slot_is k j (omega arith))))

  -- an equal slot stands in no later row
  ordered : (i j k l : ℕ) → IsPair n i j → IsPair n k l → slot_of n i j ≡ slot_of n k l → i ≤ k
  ordered i j k l p q e = by_contra i k (λ h. omega (arith, within k l i q h, slot_is i j (omega arith)))

  pub row-by-row : RowByRow n
  row-by-row = record {
    first = λ h. slot_is 0 1 (omega arith);
    along = λ i j p h. omega (arith, slot_is i j (omega arith), slot_is i (suc j) (omega arith));
    down = λ i p. omega (arith, slot_is i (n - 1) (omega arith), slot_is (suc i) (suc (suc i)) (omega arith));
    below = λ i j p. rw all-is (within i j n p (omega arith));
    one = λ i j k l p q e.
        let r = le_antisymm (ordered i j k l p q e) (ordered k l i j q p (sym e)) in
        (r, omega (arith, ap start r, slot_is i j (omega arith), slot_is k l (omega arith)));
    onto = λ s h. find s n (omega arith) (rw all-is at h);
  }

  -- ---- the first slot of a row, as a loop over the rows carries it along
  pub row_first : slot_of n 0 1 ≡ 0
  row_first = slot_is 0 1 (omega arith)

  pub row_next : (i : ℕ) → i < n → slot_of n (i + 1) (i + 1 + 1) ≡ slot_of n i (i + 1) + (n - 1 - i)
  row_next i h = rw add-one (omega (arith, slot_is i (suc i) (omega arith), slot_is (suc i) (suc i + 1) h))

  -- never past M
  pub row_within : (i : ℕ) → i ≤ n → slot_of n i (i + 1) ≤ slots_of n
  row_within i h = omega (arith, slot_is i (i + 1) h, all-is, start-mono h)

  -- along a row
  pub row-along : (i k : ℕ) → i ≤ n → slot_of n i (i + 1 + k) ≡ slot_of n i (i + 1) + k
  row-along i k h = omega (arith, slot_is i (i + 1) h, slot_is i (i + 1 + k) h)

  -- the product that the code halves is at most N(N-1)
  pub product_le : (i : ℕ) → i ≤ n → i * (2 * n - i - 1) ≤ n * (n - 1)
  product_le i h = omega (arith, twice i h, start-mono h, twice-all)

-- N(N-1) fits a u64
pub square-fits : (n : ℕ) → n < 2 ^ 32 → n * (n - 1) < 2 ^ 64
square-fits n h = omega (arith, mul-le-mul {n₁ = n} {m₁ = n - 1} {n₂ = 2 ^ 32 - 1} {m₂ = 2 ^ 32 - 1} (omega arith) (omega arith))

pub slots-mono : {m n : ℕ} → m ≤ n → slots_of m ≤ slots_of n
unfolding slots_of
slots-mono {m} {n} h = omega (arith, mul-le-mul {n₁ = m} {m₁ = m - 1} {n₂ = n} {m₂ = n - 1} h (omega arith))

-- the two limits are one
pub most-slots : slots_of max_rows ≡ max_slots
unfolding slots_of
most-slots = refl

pub few-slots : (n : ℕ) → n ≤ max_rows → slots_of n ≤ max_slots
few-slots n h = rw most-slots at (slots-mono {m = n} {n = max_rows} h)

-- so bounding the slots of a matrix within the limits changes nothing
pub bounded-same : (n : ℕ) → n ≤ max_rows → min (slots_of n) max_slots ≡ slots_of n
bounded-same n h = omega (arith, few-slots n h)
