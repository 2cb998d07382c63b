-- Writing and then reading back, by the rules: what each outcome tells, and demand 3 of what is left.
-- Assumes nothing.
use mathlib.Core.Path.{◌≡◌, refl, sym, ap, ◌∙◌}
use mathlib.Core.Bool.{Bool, true, false, not, ◌&&◌}
use mathlib.Core.List.{List, [], ◌∷◌}
use Prim.Native.Nat.{ℕ, ◌<◌}
use borrow.Author.Tests.{eq-eqb}
use lib.Dec.{eqb}
use lib.ListN.{length, take, get_or}
use Rattle.answers.specs.Table.{Answer, answer, wholes, pick}
use Rattle.answers.specs.Listed.{listed}
use Rattle.answers.specs.Lent.{over, leaves, tab}
use Rattle.answers.specs.declared.Refusal.{Refusal}
use Rattle.answers.proofs.OneToOne.{refused-not-done}
use Rattle.answers.proofs.Lent.{refused-leaves}
use Rattle.answers.proofs.Next.{next-passed}
use Rattle.elements.specs.Elements.{head_of, deviations, correlations, states}
use Rattle.reader.specs.Rules.{read_answer}
use Rattle.plan.specs.Zero.{is_zero}
use Rattle.slots.specs.Slots.{sent}
use Rattle.writer.specs.Pack.{is_sparse, pack_bytes}
use Rattle.writer.specs.Rules.{write_answer}
use Rattle.trip.specs.Values.{deviation_kept, correlation_kept}
use Rattle.trip.specs.Back.{Back}
use Rattle.trip.specs.RoundTrip.{Sendable, Returned}
use Rattle.trip.specs.Compared.{deviation_agrees, slot_agrees, numbers_agree, Comparable}
use Rattle.trip.specs.Tripped.{Lent, Roomy, trip_answer, left_by, Tripped}
use Rattle.answers.proofs.Every.{every_true}
use Rattle.trip.proofs.RoundTrip.{read_back, round_trip}
use Rattle.trip.proofs.Stood.{done-front, long-front, over-long, over-at}
use Rattle.trip.proofs.Wrote.{written_back, written-clen, written-range, Wrote, is-done, pack-read}

-- a slot, sent or left out, agrees with itself
slot_same : (sparse : Bool) (L c : ℕ) {r p : ℕ} → r ≡ pick (not (sparse && is_zero c)) (correlation_kept L c) 0 → p ≡ pick (not (sparse && is_zero c)) 1 0
    → slot_agrees L c r p ≡ true
slot_same false L c e q = rw (e, q, eq-eqb (correlation_kept L c) (correlation_kept L c) refl)
slot_same true L c {r} {p} e q = go (is_zero c) e q
  where
    go : (z : Bool) → r ≡ pick (not z) (correlation_kept L c) 0 → p ≡ pick (not z) 1 0 → pick (eqb p 1) (eqb r (correlation_kept L c)) (eqb p 0 && z && eqb r 0) ≡ true
    go true e q = rw (e, q)
    go false e q = rw (e, q, eq-eqb (correlation_kept L c) (correlation_kept L c) refl)

-- ---- what was then read, with the answer a, before it is compared
pub record Ran (ds cs : List ℕ) (L : ℕ) (lent left : Lent) (n : ℕ) (a : Answer) : Type 0 where
  pub wrote : Wrote ds cs L lent.pack left.pack n
  pub read : a ≡ read_answer (take n left.pack) (length lent.deviations) (length lent.correlations) (length lent.states)
  pub deviations : left.deviations ≡ leaves a (deviations (take n left.pack) (head_of (take n left.pack))) lent.deviations
  pub correlations : left.correlations ≡ leaves a (correlations (take n left.pack) (head_of (take n left.pack))) lent.correlations
  pub states : left.states ≡ leaves a (states (take n left.pack) (head_of (take n left.pack))) lent.states

module _ {ds cs : List ℕ} {L : ℕ} {lent left : Lent} {n : ℕ} {a : Answer} (ran : Ran ds cs L lent left n a) where
  abbrev bytes : List ℕ
  bytes = pack_bytes ds cs L

  abbrev room : ℕ
  room = length lent.pack

  -- the writer refuses nothing
  written-done : (write_answer ds cs L room).number ≡ 0
  written-done = is-done ran.wrote

  -- so the reader's answer is the answer
  trip-is : trip_answer ds cs L lent ≡ a
  trip-is =
      next-passed (write_answer ds cs L room) (read_answer bytes (length lent.deviations) (length lent.correlations) (length lent.states)) written-done
      ∙ sym (ran.read ∙ ap (λ (b : List ℕ). read_answer b (length lent.deviations) (length lent.correlations) (length lent.states)) (pack-read ran.wrote))

  -- one of the lists that are left, by what the bytes are read as
  left_by_is : (f : List ℕ → List ℕ) {l : List ℕ} (l₀ : List ℕ) → l ≡ leaves a (f (take n left.pack)) l₀ → l ≡ leaves (trip_answer ds cs L lent) (f bytes) l₀
  left_by_is f l₀ e = e ∙ ap (λ (b : List ℕ). leaves a (f b) l₀) (pack-read ran.wrote) ∙ ap (λ (x : Answer). leaves x (f bytes) l₀) (sym trip-is)

  -- all of them
  left_is : left ≡ left_by ds cs L lent
  left_is =
      let p = ran.wrote.leaves ∙ ap (λ (x : Answer). leaves x bytes lent.pack) ran.wrote.answers in
      let d = left_by_is (λ b. deviations b (head_of b)) lent.deviations ran.deviations in
      let c = left_by_is (λ b. correlations b (head_of b)) lent.correlations ran.correlations in
      let s = left_by_is (λ b. states b (head_of b)) lent.states ran.states in
      λ i. record { pack = p i; deviations = d i; correlations = c i; states = s i }

  -- ---- where the reader is done too
  module _ (z : a.number ≡ 0) where
    abbrev sparse : Bool
    sparse = is_sparse ds cs L

    abbrev found : Back ds cs L sparse bytes
    found = written_back ds cs L room written-done

    -- every correlation has a code
    correlations-found : correlations bytes (head_of bytes) ≡ tab (length cs) (λ k. pick (sent sparse cs k) (correlation_kept L (get_or cs k 0)) 0)
    correlations-found = found.correlations (λ k _. written-range ds cs L room written-done k)

    states-found : states bytes (head_of bytes) ≡ tab (length cs) (λ k. pick (sent sparse cs k) 1 0)
    states-found = found.states (λ k _. written-range ds cs L room written-done k)

    -- what is left of a list is over the front
    stands : (f : List ℕ → List ℕ) {l : List ℕ} (l₀ : List ℕ) → l ≡ leaves a (f (take n left.pack)) l₀ → l ≡ over (f bytes) l₀
    stands f l₀ e = e ∙ rw (z, pack-read ran.wrote)

    deviations-left : left.deviations ≡ over (deviations bytes (head_of bytes)) lent.deviations
    deviations-left = stands (λ b. deviations b (head_of b)) lent.deviations ran.deviations

    correlations-left : left.correlations ≡ over (correlations bytes (head_of bytes)) lent.correlations
    correlations-left = stands (λ b. correlations b (head_of b)) lent.correlations ran.correlations

    states-left : left.states ≡ over (states bytes (head_of bytes)) lent.states
    states-left = stands (λ b. states b (head_of b)) lent.states ran.states

    -- so all can be compared
    pub comparable : Comparable ds cs L left.deviations left.correlations left.states
    comparable =
        record {
          clen = written-clen ds cs L room written-done;
          values = written-range ds cs L room written-done;
          rows = rw deviations-left (over-long (length ds) _ (deviations bytes (head_of bytes)) lent.deviations found.deviations);
          slots = rw correlations-left (over-long (length cs) _ (correlations bytes (head_of bytes)) lent.correlations correlations-found);
          marks = rw states-left (over-long (length cs) _ (states bytes (head_of bytes)) lent.states states-found);
        }

    -- each entry that came back is what its format keeps
    deviation-back : (i : ℕ) → i < length ds → get_or left.deviations i 0 ≡ deviation_kept (get_or ds i 0)
    deviation-back i h = rw deviations-left (over-at (length ds) _ (deviations bytes (head_of bytes)) lent.deviations found.deviations i h)

    correlation-back : (k : ℕ) → k < length cs → get_or left.correlations k 0 ≡ pick (sent sparse cs k) (correlation_kept L (get_or cs k 0)) 0
    correlation-back k h = rw correlations-left (over-at (length cs) _ (correlations bytes (head_of bytes)) lent.correlations correlations-found k h)

    states-back : (k : ℕ) → k < length cs → get_or left.states k 0 ≡ pick (sent sparse cs k) 1 0
    states-back k h = rw states-left (over-at (length cs) _ (states bytes (head_of bytes)) lent.states states-found k h)

    -- so all agree
    agree : numbers_agree ds cs L left.deviations left.correlations left.states ≡ true
    agree =
        rw (
          every_true (length ds) (λ i. deviation_agrees (get_or ds i 0) (get_or left.deviations i 0)) (λ i h. eq-eqb _ _ (deviation-back i h)),
          every_true (length cs) (λ k. slot_agrees L (get_or cs k 0) (get_or left.correlations k 0) (get_or left.states k 0))
              (λ k h. slot_same sparse L (get_or cs k 0) (correlation-back k h) (states-back k h)),
        )

-- ---- demand 3, of what is left
module _ (ds cs : List ℕ) (L : ℕ) (lent : Lent) (s : Sendable ds cs L) (room : Roomy ds cs L lent) where
  -- both writing and reading succeed
  trip-done : trip_answer ds cs L lent ≡ answer 0 (wholes (length ds ∷ length ds ∷ length cs ∷ []))
  trip-done =
      rw ((round_trip ds cs L s).written (length lent.pack) room.pack)
      ((round_trip ds cs L s).read (length lent.deviations) (length lent.correlations) (length lent.states) room.deviations room.correlations room.states)

  -- the front of a list that is left
  front : (n : ℕ) (f : ℕ → ℕ) (l l₀ : List ℕ) → l ≡ tab n f → take n (leaves (trip_answer ds cs L lent) l l₀) ≡ l
  front n f l l₀ e = done-front (trip_answer ds cs L lent) l l₀ n (ap (λ (a : Answer). a.number) trip-done) (long-front n f l l₀ e)

  -- what stands there
  stood : let left = left_by ds cs L lent in
      Returned ds cs L (take (length ds) left.deviations) (take (length cs) left.correlations) (take (length cs) left.states)
  stood =
      let b = pack_bytes ds cs L in
      let r = read_back ds cs L s in
      rw (
        front (length ds) _ (deviations b (head_of b)) lent.deviations r.deviations,
        front (length cs) _ (correlations b (head_of b)) lent.correlations (r.correlations s.ranged),
        front (length cs) _ (states b (head_of b)) lent.states (r.states s.ranged),
      )
      (round_trip ds cs L s).back

-- the contract, from the answer and what is left
tripped : {ds cs : List ℕ} {L : ℕ} {lent left : Lent} {r : Bool} → r ≡ eqb (trip_answer ds cs L lent).number 0 → left ≡ left_by ds cs L lent
    → Tripped ds cs L lent left r
tripped {ds} {cs} {L} {lent} said stands =
    record {
      answers = said;
      leaves = stands;
      demand = λ s room. (said ∙ ap (λ (a : Answer). eqb a.number 0) (trip-done ds cs L lent s room), rw stands (stood ds cs L lent s room));
    }

-- ---- the three outcomes
-- the writer refuses
pub write-refused : (ds cs : List ℕ) (L : ℕ) (lent : Lent) (x : Refusal) {p : List ℕ} → listed x ≡ write_answer ds cs L (length lent.pack)
    → p ≡ leaves (listed x) (pack_bytes ds cs L) lent.pack
    → Tripped ds cs L lent (record { pack = p; deviations = lent.deviations; correlations = lent.correlations; states = lent.states }) false
write-refused ds cs L lent x e q =
    let b = pack_bytes ds cs L in
    let t : trip_answer ds cs L lent ≡ listed x = rw (← e, refused-not-done x) in
    let p = q ∙ ap (λ (a : Answer). leaves a b lent.pack) e in
    let same : (l l₀ : List ℕ) → l₀ ≡ leaves (trip_answer ds cs L lent) l l₀ = λ l l₀. sym (rw t (refused-leaves x l l₀)) in
    let d = same (deviations b (head_of b)) lent.deviations in
    let c = same (correlations b (head_of b)) lent.correlations in
    let s = same (states b (head_of b)) lent.states in
    tripped (sym (ap (λ (a : Answer). eqb a.number 0) t ∙ refused-not-done x))
    (λ i. record { pack = p i; deviations = d i; correlations = c i; states = s i })

module _ {ds cs : List ℕ} {L : ℕ} {lent left : Lent} {n : ℕ} {a : Answer} (ran : Ran ds cs L lent left n a) where
  -- the reader refuses
  pub read-refused : eqb a.number 0 ≡ false → Tripped ds cs L lent left false
  read-refused z = tripped (sym (ap (λ (x : Answer). eqb x.number 0) (trip-is ran) ∙ z)) (left_is ran)

  -- neither does, and what came back is compared
  pub compared : {r : Bool} → a.number ≡ 0 → r ≡ numbers_agree ds cs L left.deviations left.correlations left.states → Tripped ds cs L lent left r
  compared z e = tripped (e ∙ agree ran z ∙ sym (ap (λ (x : Answer). eqb x.number 0) (trip-is ran) ∙ eq-eqb a.number 0 z)) (left_is ran)
