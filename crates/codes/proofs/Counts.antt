-- What a loop counts fits its type; and the bytes of so many slots, eight to one.
-- Assumes nothing.
use Rattle.std.proofs.Common.{◌≡◌, ℕ, ◌+◌, ◌*◌, ◌/◌, ◌%◌, ◌^◌, ◌<◌, ◌≤◌, arith, w64, Fits}

-- ---- numbers that fit
pub within-fits : {x n : ℕ} → x ≤ n → n < 2 ^ 64 → Fits w64 x
within-fits h f = omega arith

-- where entry x of n starts, eight bytes to an entry
pub entry-fits : {x n : ℕ} → x ≤ n → n * 8 < 2 ^ 64 → Fits w64 (x * 8)
entry-fits h f = omega arith

-- ---- slots from `at` on
module _ (at count : ℕ) {n : ℕ} (h : at + count ≤ n) where
  pub starts-within : at ≤ n
  starts-within = omega arith

  pub slot-within : {j : ℕ} → j < count → at + j ≤ n
  slot-within l = omega arith

  pub slot-there : {j : ℕ} → j < count → at + j < n
  slot-there l = omega arith

-- ---- the bytes of the slots: byte i, and the last, which may have fewer
module _ (slots : ℕ) where
  pub eight-there : {i : ℕ} → i < slots / 8 → 8 * i + 8 ≤ slots
  eight-there h = omega arith

  pub byte-there : (vector : ℕ) {i n : ℕ} → i < slots / 8 → vector + (slots + 7) / 8 ≤ n → vector + i < n
  byte-there vector h k = omega arith

  pub whole-bytes : {i : ℕ} → i ≤ slots / 8 → slots / 8 ≤ i → i ≡ slots / 8
  whole-bytes h k = omega arith

  pub rest-is : (8 * (slots / 8) + slots % 8 ≤ slots) × (slots ≤ 8 * (slots / 8) + slots % 8) × (slots % 8 ≤ 8)
  rest-is = (omega arith, omega arith, omega arith)

  pub rest-there : (vector : ℕ) {n : ℕ} → 0 < slots % 8 → vector + (slots + 7) / 8 ≤ n → vector + slots / 8 < n
  rest-there vector h k = omega arith

  pub no-rest : {i : ℕ} → slots / 8 ≤ i → slots % 8 ≤ 0 → slots ≤ 8 * i
  no-rest h k = omega arith

pub eight-next : (i : ℕ) → 8 * (i + 1) ≡ 8 * i + 8
eight-next i = omega arith
