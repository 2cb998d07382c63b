-- What no code exceeds: the bits met of some, and of one more or of a run behind them.
-- Assumes nothing.
use Rattle.std.proofs.Common.{◌≡◌, ℕ, ◌+◌, ◌-◌, ◌*◌, ◌≤◌, List, ap, add-mul, lt_of_not-le, arith}
use native.Mathlib.Decide.{dec_le}
use lib.Bits.{bit_or}
use Rattle.numbers.proofs.Bits.{or-least}
use Rattle.codes.specs.Fill.{code_no, Within}

module _ {bytes : List ℕ} {codes L : ℕ} where
  pub within_none : {x : ℕ} → Within bytes codes L 0 x
  within_none = record { each = λ i l. absurd (omega arith) }

  -- one code more
  pub within_more : {n x y : ℕ} → Within bytes codes L n x → y ≡ code_no bytes codes L n → Within bytes codes L (n + 1) (bit_or x y)
  within_more {n} {x} {y} p e =
      record {
        each = λ i l.
            elim (dec_le n i) [
              | yes k ↦ let f : i ≡ n = omega arith in rw (f, ← e) (or-least x y).1
              | no k ↦ omega (arith, or-least x y, p.each i (lt_of_not-le k))
            ];
      }

  -- b more, behind a
  pub within-run : {a b x y : ℕ} → Within bytes codes L a x → x ≤ y → Within bytes (codes + a * L) L b y → Within bytes codes L (a + b) y
  within-run {a} {b} {x} {y} p h q =
      record {
        each = λ i l.
            elim (dec_le a i) [
              | yes k ↦
                  let f : a + (i - a) ≡ i = omega arith in
                  let e : codes + a * L + (i - a) * L ≡ codes + i * L = omega (arith, add-mul a (i - a) L, ap (λ (n : ℕ). n * L) f) in
                  rw e at (q.each (i - a) (omega arith))
              | no k ↦ omega (arith, p.each i (lt_of_not-le k))
            ];
      }
