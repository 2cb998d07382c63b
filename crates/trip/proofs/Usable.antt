-- What "usable" says of what the reader gives: of a slot that is present with no value, and of what demand 3 sends.
-- Assumes nothing.
use mathlib.Core.Path.{◌≡◌, refl, sym, ap, subst, ◌∙◌}
use mathlib.Core.Bool.{Bool, true, false, not, and-eq-true_iff, or-true}
use mathlib.Core.List.{List}
use mathlib.Core.Logic.{◌↔◌}
use Prim.Native.Nat.{ℕ, ◌<◌}
use native.Mathlib.Omega.{arith}
use borrow.Author.Tests.{eqb-false, le-leb, lt-leb, eq-eqb}
use lib.Dec.{T, eqb, lit≤}
use lib.ListN.{length, get_or}
use lib.Ieee.{Float, binary32, binary64, of_bits, le}
use lib.Ieee.Bits.{is_true, of_bits-to_bits, of_bits-fits}
use lib.Ieee.Fits.{sub-fits}
use lib.Ieee.Scale.{finite}
use Rattle.std.specs.Prelude.{Option, None}
use Rattle.answers.specs.Every.{every}
use Rattle.answers.specs.Lent.{over, tab}
use Rattle.answers.proofs.Every.{every-not, every_true, every-each, every-same}
use Rattle.answers.proofs.Rules.{by_bool}
use Rattle.numbers.specs.Conversions.{nearest}
use Rattle.imapb.specs.Mapping.{value, value_of, code_of}
use Rattle.imapb.proofs.Exact.{value-ranged}
use Rattle.imapb.proofs.Law.{code-le-top}
use Rattle.imapb.proofs.Range.{in-range}
use Rattle.layout.specs.declared.pack.SdccFlp.{SdccFlp}
use Rattle.layout.specs.Header.{said_size, control_of, body_at}
use Rattle.layout.specs.Size.{max_rows}
use Rattle.layout.specs.Triangle.{slots_of}
use Rattle.layout.specs.declared.header.Head.{Head}
use Rattle.elements.specs.Elements.{head_of, codes_at, slot_in, deviations, correlations, states}
use Rattle.elements.specs.Listed.{pack_of}
use Rattle.elements.proofs.States.{state-absent}
use Rattle.deviations.specs.declared.form.DeviationRange.{DeviationRange}
use Rattle.deviations.specs.Range.{deviations_over}
use Rattle.slots.specs.Slots.{sent}
use Rattle.writer.specs.Pack.{is_sparse, pack_bytes}
use Rattle.matrix.specs.Usable.{zero_value, at_least_zero, counts_fit, is_deviation, is_correlation, is_settled, first_all}
use Rattle.matrix.proofs.FirstAll.{first-every}
use Rattle.matrix.proofs.Asked.{by-deviations, settled-not}
use Rattle.trip.specs.RoundTrip.{rounding, Sendable}
use Rattle.trip.specs.Usable.{usable_read, NoValue, UsableRead}
use Rattle.trip.proofs.Cells.{pack-read}
use Rattle.trip.proofs.RoundTrip.{slot-by, read_back, slot, correlations-are, round_trip}
use Rattle.trip.proofs.Rounding.{rounding-value}
use Rattle.trip.proofs.Stood.{over-long, over-at}

-- the entries of a list over the front, one by one
front-every : (test : ℕ → Bool) (n : ℕ) (f : ℕ → ℕ) (front lent : List ℕ) → front ≡ tab n f
    → first_all test n (over front lent) ≡ every n (λ k. test (f k))
front-every test n f front lent e =
    first-every test n (over front lent) (over-long n f front lent e) ∙ every-same n (λ k h. ap test (over-at n f front lent e k h))

-- ---- a slot that is present with no value
module _ (bytes : List ℕ) (k : ℕ) (v : NoValue bytes k) where
  abbrev state : ℕ → ℕ
  state k = (slot_in bytes (body_at bytes) (codes_at (head_of bytes)) (control_of bytes) k).state

  -- its state is neither 0 nor 1
  unsettled : is_settled (state k) ≡ false
  unsettled =
      let z = eqb-false (state k) 0 (state-absent bytes (body_at bytes) (codes_at (head_of bytes)) (control_of bytes) k ∙ ap not v.present) in
      lt-leb (state k) 1 (omega (arith, v.other))

  unusable : (range : Option DeviationRange) (ds₀ cs₀ ss₀ : List ℕ) → usable_read range bytes ds₀ cs₀ ss₀ ≡ false
  unusable range ds₀ cs₀ ss₀ =
      let h = head_of bytes in
      let M = slots_of (said_size bytes) in
      settled-not (pack_of h) M (over (deviations_over range bytes h) ds₀) (over (correlations bytes h) cs₀) (over (states bytes h) ss₀)
      (front-every is_settled M state (states bytes h) ss₀ refl ∙ every-not M (λ k. is_settled (state k)) k v.within unsettled)

-- ---- what demand 3 sends
module _ (ds cs : List ℕ) (L : ℕ) (s : Sendable ds cs L) (ds₀ cs₀ ss₀ : List ℕ) where
  abbrev bytes : List ℕ
  bytes = pack_bytes ds cs L

  abbrev h : Head
  h = head_of bytes

  -- the pack has N deviations and M slots
  abbrev sent_pack : SdccFlp
  sent_pack = record { matrix_size = length ds; deviations = length ds; slots = length cs }

  pack-is : pack_of h ≡ sent_pack
  pack-is = sym (pack-read None bytes (length ds) (length cs) (length cs) sent_pack (sym ((round_trip ds cs L s).read (length ds) (length cs) (length cs) (omega arith) (omega arith) (omega arith))))

  fits : counts_fit (pack_of h) ≡ true
  fits = ap counts_fit pack-is ∙ rw (le-leb (length ds) max_rows s.rows, eq-eqb (length ds) (length ds) refl, or-true (eqb (length ds) 0), eq-eqb (length cs) (slots_of (length ds)) s.slots)

  slots-are : slots_of (said_size bytes) ≡ length cs
  slots-are = ap (λ (p : SdccFlp). p.slots) pack-is

  -- each correlation is the value of a code or the 0 of one left out, and lies from -1 to 1
  slot-ranged : (k : ℕ) → k < length cs → is_correlation (slot ds cs L s k) ≡ true
  unfolding value
  slot-ranged k i =
      let c = get_or cs k 0 in
      let v = of_bits binary64 c in
      slot-by L c (λ r. is_correlation r ≡ true) (is_sparse ds cs L)
      (rw (of_bits-to_bits binary64 (value_of L (code_of L v)) (sub-fits binary64 _ _))
      (value-ranged L s.least s.most (code_of L v) (code-le-top L s.least (omega (arith, s.most)) v (of_bits-fits binary64 c) (s.ranged k i))))
      (λ _. in-range 0 (lit≤ tt))

  correlations-pass : first_all is_correlation (length cs) (over (correlations bytes h) cs₀) ≡ true
  correlations-pass =
      front-every is_correlation (length cs) (slot ds cs L s) (correlations bytes h) cs₀ (correlations-are ds cs L s)
      ∙ every_true (length cs) _ slot-ranged

  states-pass : first_all is_settled (length cs) (over (states bytes h) ss₀) ≡ true
  states-pass =
      front-every is_settled (length cs) _ (states bytes h) ss₀ ((read_back ds cs L s).states s.ranged)
      ∙ every_true (length cs) _ (λ k _. by_bool (sent (is_sparse ds cs L) cs k) (λ t. rw t) (λ f. rw f))

  -- so the deviations decide, each by the rounding of the one sent
  abbrev rounded : ℕ → Float
  rounded i = nearest binary32 (of_bits binary64 (get_or ds i 0))

  usable-is : usable_read None bytes ds₀ cs₀ ss₀ ≡ every (length ds) (λ i. at_least_zero (rounded i))
  usable-is =
      by-deviations (pack_of h) (slots_of (said_size bytes)) (over (deviations bytes h) ds₀) (over (correlations bytes h) cs₀) (over (states bytes h) ss₀) fits refl
      (ap (λ (m : ℕ). first_all is_correlation m (over (correlations bytes h) cs₀)) slots-are ∙ correlations-pass)
      (ap (λ (m : ℕ). first_all is_settled m (over (states bytes h) ss₀)) slots-are ∙ states-pass)
      ∙ ap (λ (p : SdccFlp). first_all is_deviation p.deviations (over (deviations bytes h) ds₀)) pack-is
      ∙ front-every is_deviation (length ds) (λ i. rounding (get_or ds i 0)) (deviations bytes h) ds₀ (round_trip ds cs L s).back.deviations
      ∙ every-same (length ds) (λ i _. ap at_least_zero (rounding-value (get_or ds i 0)))

  sent-usable : (usable_read None bytes ds₀ cs₀ ss₀ ≡ true) ↔ ((i : ℕ) → i < length ds → T (le zero_value (rounded i)))
  sent-usable = (
    λ u i l.
        let p = every-each (length ds) (λ i. at_least_zero (rounded i)) (sym usable-is ∙ u) i l in
        subst T (sym ((and-eq-true_iff (finite (rounded i)) (le zero_value (rounded i))).0 p).1) tt,
    λ p.
        usable-is
        ∙ every_true (length ds) _ (λ i l. rw (is_true (finite (rounded i)) (s.numbers i l), is_true (le zero_value (rounded i)) (p i l))),
  )

pub usable-read : (ds₀ cs₀ ss₀ : List ℕ) → UsableRead ds₀ cs₀ ss₀
usable-read ds₀ cs₀ ss₀ =
    record {
      no_value = λ range bytes k v. unusable bytes k v range ds₀ cs₀ ss₀;
      sent = λ ds cs L s. sent-usable ds cs L s ds₀ cs₀ ss₀;
    }
