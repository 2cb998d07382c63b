-- The reader's whole order: its refusals are those of the rules, and what is left in lent memory.
-- Assumes nothing.
use mathlib.Core.Path.{◌≡◌, sym, ap, ◌∙◌}
use mathlib.Core.Bool.{Bool, true, false}
use mathlib.Core.List.{List}
use Prim.Native.Nat.{ℕ, ◌≤◌}
use native.Mathlib.Omega.{arith}
use lib.ListN.{length}
use Rattle.std.specs.Prelude.{Err, Ok, Result, Option}
use Rattle.answers.specs.Lent.{over, tab, leaves}
use Rattle.answers.specs.Listed.{listed}
use Rattle.answers.specs.Outcome.{Outcome, found, refused}
use Rattle.answers.specs.Table.{Answer, pick}
use Rattle.answers.specs.declared.Refusal.{Refusal}
use Rattle.answers.proofs.Lent.{tab-same, refused-leaves}
use Rattle.answers.proofs.Next.{next-passed}
use Rattle.answers.proofs.OneToOne.{refused-not-done}
use Rattle.answers.proofs.Rules.{by_bool}
use Rattle.answers.proofs.Outcome.{refused-tells}
use Rattle.layout.specs.Triangle.{slots_of}
use Rattle.layout.specs.declared.pack.SdccFlp.{SdccFlp}
use Rattle.layout.specs.declared.header.Head.{Head}
use Rattle.elements.specs.declared.head.Places.{Places}
use Rattle.elements.specs.Elements.{head_of, places_of, codes_at, deviations_at, deviation_count, slot_in, correlations, states}
use Rattle.elements.specs.Held.{SlotsHeld}
use Rattle.elements.specs.Listed.{pack_of}
use Rattle.elements.proofs.Parts.{ends}
use Rattle.deviations.specs.declared.form.DeviationRange.{DeviationRange}
use Rattle.deviations.specs.Range.{deviations_over}
use Rattle.deviations.specs.Form.{Form, form_of}
use Rattle.deviations.proofs.Formed.{form-bits}
use Rattle.rules.specs.Rules.{pack_rules, room_rules}
use Rattle.rules.specs.Decided.{Ready, ready, ready_of}
use Rattle.rules.proofs.Held.{Held, rooms}
use Rattle.codes.specs.Store.{store_rules, store_ready, by_words}
use Rattle.codes.proofs.Whole.{lent-passes, all_held, Left, places-told, both-pass, slots-there}
use Rattle.reader.specs.Listed.{read_listed}
use Rattle.reader.specs.Rules.{done, read_answer_in}
use Rattle.reader.specs.Rows.{RowsHeld, form_in}

module _ (range : Option DeviationRange) (bytes ds cs ss : List ℕ) where
  abbrev h : Head
  h = head_of bytes

  abbrev rules : Answer
  rules = store_rules range bytes (length ds) (length cs) (length ss)

  -- what the reader's contract says of lent memory
  abbrev pub Meets : Result SdccFlp Refusal → List ℕ → List ℕ → List ℕ → Type 0
  Meets x ds' cs' ss' =
      (read_listed x ≡ read_answer_in range bytes (length ds) (length cs) (length ss))
      × (ds' ≡ leaves (read_listed x) (deviations_over range bytes h) ds)
      × (cs' ≡ leaves (read_listed x) (correlations bytes h) cs)
      × (ss' ≡ leaves (read_listed x) (states bytes h) ss)

  -- what is left of the slots' memory, by the rules
  module _ {cs' ss' : List ℕ} (p : cs' ≡ leaves rules (correlations bytes h) cs) (q : ss' ≡ leaves rules (states bytes h) ss) where
    -- a refusal: all as it was
    pub kept : (r : Refusal) → refused (listed r) ≡ store_ready range bytes (length ds) (length cs) (length ss) → Meets (Err r) ds cs' ss'
    kept r o =
        let e : rules ≡ listed r = refused-tells rules (ready_of range bytes) o in
        (rw (e, refused-not-done r), sym (refused-leaves r (deviations_over range bytes h) ds), rw e at p, rw e at q)

    -- and done: the numbers, over what was there
    module _ {a : Places} {f : Form} (o : found (ready a f) ≡ store_ready range bytes (length ds) (length cs) (length ss)) where
      told : (rules.number ≡ 0) × (ready a f ≡ ready_of range bytes)
      told = places-told range bytes (length ds) cs ss o

      are : a ≡ places_of h
      are = ap (λ (x : Ready). x.places) told.1

      form : f ≡ form_of range h.control
      form = ap (λ (x : Ready). x.form) told.1

      passed : ((pack_rules range bytes).number ≡ 0) × ((room_rules h (length ds) (length cs) (length ss)).number ≡ 0)
      passed = both-pass range bytes (length ds) cs ss o

      whole : Held bytes h (form_of range h.control)
      whole = all_held range bytes passed.0

      rows : RowsHeld bytes (deviations_at h) h.control (form_of range h.control) (deviation_count h)
      rows = record { whole = whole.deviations; each = whole.each }

      pub deviations-there : RowsHeld bytes a.deviations a.head.control f (deviation_count a.head) × (deviation_count a.head ≤ length ds)
      deviations-there = rw (are, form) (rows, (rooms h (length ds) (length cs) (length ss) passed.1).deviations)

      -- the deviations in their form are those of the rules
      same-deviations : tab (deviation_count h) (form_in bytes (deviations_at h) h.control (form_of range h.control)) ≡ deviations_over range bytes h
      same-deviations =
          tab-same (deviation_count h)
          (λ i l. form-bits bytes (deviations_at h) h.control i range (lent-passes range bytes passed.0)
          (omega (arith, whole.deviations, ends (deviations_at h) h.control.slen l)) (whole.each i l))

      pub stored : {pack : SdccFlp} {ds' : List ℕ} → pack ≡ pack_of a.head
          → ds' ≡ over (tab (deviation_count a.head) (form_in bytes a.deviations a.head.control f)) ds
          → Meets (Ok pack) ds' cs' ss'
      stored k e =
          rw k (rw are (sym (next-passed rules (done h) told.0)), rw (are, form, same-deviations) at e, rw told.0 at p, rw told.0 at q)

-- ---- the slots that are left to the plain way
module _ (range : Option DeviationRange) (bytes : List ℕ) (ds : ℕ) (cs ss : List ℕ) where
  abbrev by-rules : Answer
  by-rules = store_rules range bytes ds (length cs) (length ss)

  abbrev words : Bool
  words = by_words (head_of bytes).control (codes_at (head_of bytes))

  -- what store_slots leaves
  abbrev pub Stored : Outcome Ready → List ℕ → List ℕ → Type 0
  Stored o cs' ss' = (o ≡ store_ready range bytes ds (length cs) (length ss))
      × (cs' ≡ leaves by-rules (correlations bytes (head_of bytes)) cs)
      × (ss' ≡ leaves by-rules (states bytes (head_of bytes)) ss)

  module _ {cs₁ ss₁ : List ℕ} {o : Outcome Ready} (left : Left range bytes ds cs ss o cs₁ ss₁) where
    -- a refusal
    pub stays : (r : Refusal) → o ≡ refused (listed r) → Stored o cs₁ ss₁
    stays r e =
        let k : by-rules ≡ listed r = refused-tells by-rules (ready_of range bytes) (sym e ∙ left.0) in (
          left.0,
          left.1 ∙ rw k (either_way (refused-leaves r (correlations bytes (head_of bytes)) cs)),
          left.2 ∙ rw k (either_way (refused-leaves r (states bytes (head_of bytes)) ss)),
        )
      where
        either_way : {a lent : List ℕ} → a ≡ lent → pick words a lent ≡ a
        either_way {a} {lent} p = by_bool words (λ t. rw t) (λ f. rw f (sym p))

    module _ {p : Places} {f : Form} (e : o ≡ found (ready p f)) where
      are-places : p ≡ places_of (head_of bytes)
      are-places = ap (λ (x : Ready). x.places) (places-told range bytes ds cs ss (sym e ∙ left.0)).1

      -- stored by words
      pub by-words-stored : {b : Bool} → b ≡ by_words p.head.control p.codes → b ≡ true → Stored (found (ready p f)) cs₁ ss₁
      by-words-stored q y = let w : words ≡ true = rw are-places at (sym q ∙ y) in (sym e ∙ left.0, rw w at left.1, rw w at left.2)

      -- or as lent, and now stored
      module _ {b : Bool} (q : b ≡ by_words p.head.control p.codes) (n : b ≡ false) where
        as_lent : (cs₁ ≡ cs) × (ss₁ ≡ ss)
        as_lent = let w : words ≡ false = rw are-places at (sym q ∙ n) in (rw w at left.1, rw w at left.2)

        pub plain-there : SlotsHeld bytes p.head.body p.codes p.head.control (slots_of p.head.n)
            × (slots_of p.head.n ≤ length cs₁)
            × (slots_of p.head.n ≤ length ss₁)
        plain-there =
            let t = slots-there range bytes ds cs ss (sym e ∙ left.0) in
            rw (as_lent.0, as_lent.1) (t.0, t.2, t.3)

        pub now-stored : {cs₂ ss₂ : List ℕ}
            → cs₂ ≡ over (tab (slots_of p.head.n) (λ k. (slot_in bytes p.head.body p.codes p.head.control k).bits)) cs₁
            → ss₂ ≡ over (tab (slots_of p.head.n) (λ k. (slot_in bytes p.head.body p.codes p.head.control k).state)) ss₁
            → Stored (found (ready p f)) cs₂ ss₂
        now-stored a b =
            let z = (places-told range bytes ds cs ss (sym e ∙ left.0)).0 in
            (sym e ∙ left.0, rw z (rw (as_lent.0, are-places) at a), rw z (rw (as_lent.1, are-places) at b))
