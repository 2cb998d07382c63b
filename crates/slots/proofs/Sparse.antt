-- Laws of the slots of a sparse pack, eight to a byte of the Bit Vector.
-- Assumes nothing.
use mathlib.Core.Path.{◌≡◌, refl, sym, ◌∙◌}
use mathlib.Core.Bool.{Bool, true, false, not}
use mathlib.Core.List.{List, [], ◌++◌, append-nil, append_assoc}
use Prim.Native.Nat.{ℕ, zero, suc, ◌+◌, ◌-◌, ◌*◌, ◌%◌, ◌^◌, ◌≤◌, ◌<◌}
use native.Mathlib.Nat.{zero-add, add-zero, add-suc, add_assoc, one-mul, le_trans, pow-le-pow_right}
use native.Mathlib.Numerals.{add-one}
use native.Mathlib.Omega.{arith}
use lib.ListN.{length, get_or, set, get_or-eq_default}
use lib.Seq.{sets, length-sets}
use lib.Ieee.{binary64, of_bits}
use Rattle.answers.specs.Table.{pick}
use Rattle.answers.specs.Lent.{tab, joined}
use Rattle.answers.proofs.Lent.{length-tab}
use Rattle.answers.proofs.Joined.{joined-rest}
use Rattle.answers.proofs.Stored.{sets-tab}
use Rattle.answers.proofs.Runs.{Run, run_none, run_room, run_more, run-under, run_end, run-done}
use Rattle.numbers.specs.Digits.{spelt}
use Rattle.numbers.specs.Words.{bytes_of}
use Rattle.numbers.proofs.Bytes.{length-bytes}
use Rattle.numbers.proofs.Digits.{spelt-append, spelt-lt}
use Rattle.imapb.specs.Mapping.{code_of}
use Rattle.plan.specs.Zero.{is_zero}
use Rattle.slots.specs.Slots.{sent, eight_bits, vector_byte, code_bytes, element5}
use Rattle.slots.specs.Fill.{codes_from, codes_of, sent_bytes, vector_from, vector_size}

-- ---- what `zero_of` answers tells
pub is_one : (b : Bool) {r : ℕ} → r ≡ pick b 1 0 → r ≡ 1 → b ≡ true
is_one true e h = refl
is_one false e h = absurd (omega arith)

pub not-one : (b : Bool) {r : ℕ} → r ≡ pick b 1 0 → (r ≡ 1 → ⊥) → b ≡ false
not-one true e h = absurd (h e)
not-one false e h = refl

-- ---- the bits of j slots
abbrev pub bits_of : (ℕ → Bool) → ℕ → ℕ
bits_of b j = spelt 2 0 (tab j (λ k. pick (b k) 1 0))

bit-mod : (b : Bool) → pick b 1 0 % 2 ≡ pick b 1 0
bit-mod true = refl
bit-mod false = refl

pub bits-more : (b : ℕ → Bool) (j : ℕ) → bits_of b (j + 1) ≡ bits_of b j * 2 + pick (b j) 1 0
bits-more b j = rw (add-one, spelt-append, bit-mod (b j))

pub bits-low : (b : ℕ → Bool) (j : ℕ) → bits_of b j < 2 ^ j
bits-low b j = rw (length-tab j (λ k. pick (b k) 1 0), one-mul) at (spelt-lt 2 (omega arith) 0 1 (omega arith) (tab j (λ k. pick (b k) 1 0)))

-- eight of them fit a byte
bits_fit : (b : ℕ → Bool) (j : ℕ) → j ≤ 8 → bits_of b j < 256
bits_fit b j h = le_trans (bits-low b j) (pow-le-pow_right {n = 2} (omega arith) {i = j} {j = 8} h)

-- a slot that is not sent has no bytes
sent-length : (b : Bool) (L n : ℕ) → length (pick b (bytes_of L n) []) ≡ pick b 1 0 * L
sent-length true L n = rw length-bytes (omega arith)
sent-length false L n = omega arith

-- ---- the loop over eight slots of a sparse pack, after j turns
pub record Eight (cs : List ℕ) (from L at : ℕ) (l₀ : List ℕ) (j : ℕ) (l : List ℕ) (next bits : ℕ) : Type 0 where
  pub run : Run 8 (λ k. code_bytes true cs L (from + k)) at l₀ j l next
  pub spells : bits ≡ bits_of (λ k. sent true cs (from + k)) j

module _ {cs : List ℕ} {from L at : ℕ} {l₀ : List ℕ} {j : ℕ} {l : List ℕ} {next bits : ℕ} (e : Eight cs from L at l₀ j l next bits) where
  -- a turn: the slot's correlation v, and its bit
  module _ (h : j < 8) {v bit : ℕ} (p : v ≡ get_or cs (from + j) 0) (q : bit ≡ pick (not (is_zero v)) 1 0) where
    bits-on : bits * 2 + bit ≡ bits_of (λ k. sent true cs (from + k)) (j + 1)
    bits-on = rw (e.spells, q, p) (sym (bits-more (λ k. sent true cs (from + k)) j))

    next-on : next + bit * L ≡ next + length (code_bytes true cs L (from + j))
    next-on = rw (q, p, sent-length (not (is_zero (get_or cs (from + j) 0))) L (code_of L (of_bits binary64 (get_or cs (from + j) 0))))

    pub eight-byte : bits * 2 + bit < 256
    eight-byte = rw bits-on (bits_fit (λ k. sent true cs (from + k)) (j + 1) (omega arith))

    pub eight-room : next + bit * L ≤ length l
    eight-room = rw next-on (run_room e.run h)

    pub eight-more : {m : List ℕ} → m ≡ sets l next (sent_bytes v L) → Eight cs from L at l₀ (j + 1) m (next + bit * L) (bits * 2 + bit)
    eight-more g = record { run = run_more e.run h (rw p at g) next-on; spells = bits-on }

  pub eight-done : 8 ≤ j
      → (bits ≡ eight_bits true cs from) × (next ≡ at + length (codes_of true cs L from 8)) × (l ≡ sets l₀ at (codes_of true cs L from 8))
  eight-done h = let k : j ≡ 8 = omega (arith, e.run.within) in (rw k at e.spells, run_end e.run h, run-done e.run h)

-- ---- the codes of a sparse pack
module _ (cs : List ℕ) (L : ℕ) where
  pub codes-add : (from m n : ℕ) → codes_of true cs L from (m + n) ≡ codes_of true cs L from m ++ codes_of true cs L (from + m) n
  codes-add from m zero = rw (add-zero, append-nil)
  codes-add from m (suc n) = rw (add-suc, codes-add from m n, append_assoc, add_assoc)

  -- eight slots at a time
  groups-codes : (i n : ℕ) → joined n (λ k. codes_of true cs L (8 * (i + k)) 8) ≡ codes_of true cs L (8 * i) (8 * n)
  groups-codes i zero = refl
  groups-codes i (suc n) =
      let e : 8 * suc n ≡ 8 * n + 8 = omega arith in
      let f : 8 * (i + n) ≡ 8 * i + 8 * n = omega arith in
      rw (e, codes-add (8 * i) (8 * n) 8, groups-codes i n, f)

  -- the slots of the vector's bytes are all slots: those past the last correlation are not sent
  pub codes_all : codes_of true cs L 0 (8 * vector_size cs) ≡ element5 true cs L
  codes_all =
      let d = 8 * vector_size cs - length cs in
      let e : 8 * vector_size cs ≡ length cs + d = omega arith in
      rw e (simp zero-add (joined-rest (code_bytes true cs L) (length cs) d (λ k h. rw (get_or-eq_default cs 0 h))))

-- ---- the loop over the slots of a sparse pack from byte b of the Bit Vector on, after byte i
pub record Sent (cs : List ℕ) (L vector codes b : ℕ) (l₀ : List ℕ) (i : ℕ) (l : List ℕ) (next : ℕ) : Type 0 where
  pub from : b ≤ i
  pub within : i ≤ vector_size cs
  pub run : Run (vector_size cs - b) (λ k. codes_of true cs L (8 * (b + k)) 8) codes (sets l₀ (vector + b) (tab (i - b) (λ k. vector_byte true cs (b + k)))) (i - b) l next
  pub behind : vector + vector_size cs ≤ codes

module _ {cs : List ℕ} {L vector codes b : ℕ} {l₀ : List ℕ} where
  pub sent-none : b ≤ vector_size cs → vector + vector_size cs ≤ codes
      → codes + length (codes_from cs L b) ≤ length l₀ → Sent cs L vector codes b l₀ b l₀ codes
  sent-none f v h =
      let e : b - b ≡ 0 = omega arith in
      record { from = omega arith; within = f; run = rw e (run_none (rw (groups-codes cs L b (vector_size cs - b)) h)); behind = v }

  module _ {i : ℕ} {l : List ℕ} {next : ℕ} (e : Sent cs L vector codes b l₀ i l next) where
    at_i : b + (i - b) ≡ i
    at_i = omega (arith, e.from)

    pub sent-long : length l ≡ length l₀
    sent-long = e.run.long ∙ length-sets l₀ (vector + b) (tab (i - b) (λ k. vector_byte true cs (b + k)))

    -- a turn: the group's codes, and then its byte
    module _ (h : i < vector_size cs) where
      pub sent-room : next + length (codes_of true cs L (8 * i) 8) ≤ length l
      sent-room = rw at_i at (run_room e.run (omega (arith, e.from)))

      module _ {m : List ℕ} (g : m ≡ sets l next (codes_of true cs L (8 * i) 8)) where
        pub sent-place : vector + i < length m
        sent-place =
            rw (g, length-sets, sent-long)
            (omega (arith, e.behind, e.run.room, length-sets l₀ (vector + b) (tab (i - b) (λ k. vector_byte true cs (b + k)))))

        pub sent-more : {x y : ℕ} → x ≡ next + length (codes_of true cs L (8 * i) 8) → y ≡ eight_bits true cs (8 * i)
            → Sent cs L vector codes b l₀ (i + 1) (set m (vector + i) y) x
        sent-more {x} p q =
            let d : i + 1 - b ≡ i - b + 1 = omega (arith, e.from) in
            let w : vector + b + (i - b) ≡ vector + i = omega (arith, e.from) in
            record {
              from = omega (arith, e.from);
              within = omega arith;
              run = rw (d, q, ← (sets-tab l₀ (vector + b) (i - b) (λ k. vector_byte true cs (b + k))), w, at_i)
                  (run-under (run_more e.run {m = m} {x = x} (omega (arith, e.from)) (rw at_i g) (rw at_i p)) (vector + i) (vector_byte true cs i) (omega (arith, e.behind)));
              behind = e.behind;
            }

    pub sent-done : vector_size cs ≤ i
        → l ≡ sets (sets l₀ (vector + b) (vector_from cs b)) codes (codes_from cs L b)
    sent-done h =
        let k : i ≡ vector_size cs = omega (arith, e.within) in
        rw (k, groups-codes cs L b (vector_size cs - b)) at e.run.is
