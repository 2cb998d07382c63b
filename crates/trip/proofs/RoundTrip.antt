-- Demand 3, from the lists that reading gives and the law of a mapped number.
-- Assumes nothing.
use mathlib.Core.Path.{◌≡◌, refl, sym, ◌∙◌}
use mathlib.Core.Bool.{Bool, true, false, not, ◌&&◌}
use mathlib.Core.List.{List, [], ◌∷◌}
use Prim.Native.Nat.{ℕ, suc, ◌-◌, ◌*◌, ◌/◌, ◌%◌, ◌^◌, ◌≤◌, ◌<◌, zero-le}
use native.Mathlib.Omega.{arith}
use borrow.Author.Tests.{eqb-true, le-ltb, le-leb, eq-eqb}
use lib.Dec.{T, leb}
use lib.IntN.{pos}
use lib.ListN.{length, get_or}
use lib.Pow.{pow_pos}
use lib.Ieee.{fin, binary64, of_bits, eq}
use lib.Ieee.Bits.{is_true, of_bits-to_bits, of_bits-fits}
use lib.Ieee.Fits.{sub-fits}
use Rattle.answers.specs.Table.{answer, wholes, pick, passes}
use Rattle.answers.specs.Lent.{tab}
use Rattle.answers.proofs.Lent.{length-tab, get_or-tab, tab-same}
use Rattle.answers.proofs.Rules.{by_bool}
use Rattle.numbers.proofs.Patterns.{subnormal-value}
use Rattle.imapb.specs.Mapping.{value, in_range, code_of, value_of}
use Rattle.imapb.proofs.Above.{Lies, Over}
use Rattle.imapb.proofs.Law.{kept}
use Rattle.imapb.proofs.Near.{near}
use Rattle.layout.specs.Size.{max_rows}
use Rattle.layout.specs.Triangle.{slots_of}
use Rattle.elements.specs.Elements.{head_of, deviations, correlations, states}
use Rattle.plan.specs.Zero.{is_zero}
use Rattle.slots.specs.Slots.{sent}
use Rattle.writer.specs.Pack.{is_sparse, pack_bytes}
use Rattle.plan.specs.Rules.{count_rules, range_rules}
use Rattle.writer.specs.Rules.{write_answer}
use Rattle.plan.proofs.EqualZero.{zero_is}
use Rattle.writer.proofs.Lengths.{never-longer}
use Rattle.writer.proofs.Whole.{all_pass}
use Rattle.trip.specs.Values.{correlation_kept}
use Rattle.trip.specs.Back.{Back}
use Rattle.trip.specs.RoundTrip.{rounding, above, below, NearTo, Sendable, Returned, RoundTrip}
use Rattle.trip.proofs.Back.{back}
use Rattle.trip.proofs.Rounding.{kept-rounding, rounding-value}

-- ---- what can be sent passes the writer's rules
-- the counts and the length
counts-pass : (n m L : ℕ) → n ≤ max_rows → m ≡ slots_of n → 1 ≤ L → L ≤ 8 → count_rules n m L ≡ passes
counts-pass n m L rows e least most = rw (le-ltb max_rows n rows, eq-eqb m (slots_of n) e, le-leb 1 L least, le-leb L 8 most)

-- each correlation
range-passes : (cs : List ℕ) → ((k : ℕ) → k < length cs → T (in_range (of_bits binary64 (get_or cs k 0)))) → range_rules cs ≡ passes
range-passes [] h = refl
range-passes (c ∷ cs) h =
    rw (is_true (in_range (of_bits binary64 c)) (h 0 (omega arith))) (range-passes cs (λ k l. h (suc k) (omega arith)))

-- ---- a correlation, sent or left out
-- either zero has no units
zero-lies : (c : ℕ) → is_zero c ≡ true → Lies binary64 0 0 (of_bits binary64 c)
unfolding of_bits
zero-lies c z =
    let e = eqb-true (c % 2 ^ 63) 0 z in
    let s = leb (2 ^ 63) c in
    let f : c % 2 ^ 63 / 2 ^ 52 ≡ 0 = omega arith in
    let t : c % 2 ^ 52 ≡ 0 = omega arith in
    record { sign = s; size = 0; counts = rw (f, t) (subnormal-value binary64 s 0); over = over s }
  where
    over : (s : Bool) → Over s 0 0 0
    over true = refl
    over false = refl

module _ (L c : ℕ) where
  -- one that is sent is near by the law
  sent-near : 1 ≤ L → L ≤ 6 → T (in_range (of_bits binary64 c)) → NearTo L c (correlation_kept L c)
  unfolding value
  sent-near least most ranged =
      rw (of_bits-to_bits binary64 (value_of L (code_of L (of_bits binary64 c))) (sub-fits binary64 _ _))
      (kept L least most (of_bits binary64 c) (of_bits-fits binary64 c) ranged).near

  -- one that is left out is 0, and reads 0
  left_near : is_zero c ≡ true → NearTo L c 0
  left_near z =
      near binary64 above (below L) 0 0 0 (of_bits binary64 c) (of_bits binary64 0) (zero-lies c z) (zero-lies 0 refl) zero-le
      (omega (arith, pow_pos (1076 - 8 * L)))

  -- what holds of the value of its code, and of 0 where it is 0, holds of what the form makes of it
  pub slot-by : (P : ℕ → Type 0) (sparse : Bool) → P (correlation_kept L c) → (is_zero c ≡ true → P 0)
      → P (pick (not (sparse && is_zero c)) (correlation_kept L c) 0)
  slot-by P false kept left = kept
  slot-by P true kept left = by_bool (is_zero c) (λ z. rw z (left z)) (λ z. rw z kept)

-- ---- the states of a sparse pack: what IEEE 754 holds equal to 0 is left out
sparse-states : (cs : List ℕ) → tab (length cs) (λ k. pick (sent true cs k) 1 0)
    ≡ tab (length cs) (λ k. pick (eq (of_bits binary64 (get_or cs k 0)) (fin false 0 (pos 0))) 0 1)
sparse-states cs = tab-same (length cs) (λ k l. rw (← (zero_is (get_or cs k 0))) (turned (is_zero (get_or cs k 0))))
  where
    turned : (z : Bool) → ◌≡◌ {A = ℕ} (pick (not z) 1 0) (pick z 0 1)
    turned true = refl
    turned false = refl

-- ---- demand 3
module _ (ds cs : List ℕ) (L : ℕ) (s : Sendable ds cs L) where
  abbrev bytes : List ℕ
  bytes = pack_bytes ds cs L

  abbrev sparse : Bool
  sparse = is_sparse ds cs L

  -- slot k as it is read
  abbrev pub slot : ℕ → ℕ
  slot k = pick (sent sparse cs k) (correlation_kept L (get_or cs k 0)) 0

  -- the pack reads back, by its form
  pub read_back : Back ds cs L sparse bytes
  read_back = back ds cs L sparse s.rows s.slots s.least (omega (arith, s.most))

  -- its deviations are the roundings
  deviations-are : deviations bytes (head_of bytes) ≡ tab (length ds) (λ i. rounding (get_or ds i 0))
  deviations-are = read_back.deviations ∙ tab-same (length ds) (λ i h. kept-rounding (get_or ds i 0) (s.numbers i h))

  -- its correlations are the slots
  pub correlations-are : correlations bytes (head_of bytes) ≡ tab (length cs) slot
  correlations-are = read_back.correlations s.ranged

  -- what was sent comes back
  returned : Returned ds cs L (deviations bytes (head_of bytes)) (correlations bytes (head_of bytes)) (states bytes (head_of bytes))
  returned =
      record {
        deviations = deviations-are;
        values = λ i h. rw (deviations-are, get_or-tab (length ds) (λ i. rounding (get_or ds i 0)) i h) (rounding-value (get_or ds i 0));
        count = rw correlations-are (length-tab (length cs) slot);
        correlations =
            λ k h.
            rw (correlations-are, get_or-tab (length cs) slot k h) (slot-by L (get_or cs k 0) (NearTo L (get_or cs k 0)) sparse (sent-near L (get_or cs k 0) s.least s.most (s.ranged k h)) (left_near L (get_or cs k 0)));
        sparse = λ e. read_back.states s.ranged ∙ rw e (sparse-states cs);
        full = λ e. read_back.states s.ranged ∙ rw e;
      }

  -- no rule of the writer refuses it
  is-written : (room : ℕ) → length bytes ≤ room → answer 0 (wholes (length bytes ∷ [])) ≡ write_answer ds cs L room
  is-written room =
      all_pass ds cs L room (rw (counts-pass (length ds) (length cs) L s.rows s.slots s.least (omega (arith, s.most))))
      (rw (range-passes cs s.ranged))

  -- every clause
  pub round_trip : RoundTrip ds cs L
  round_trip =
      record {
        written = λ room h. sym (is-written room h);
        read = read_back.answers;
        back = returned;
        never-longer = never-longer ds cs L (omega (arith, s.rows));
      }
