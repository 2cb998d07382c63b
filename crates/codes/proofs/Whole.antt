-- Rules a) to l): what each refusal comes to, what they say of a pack that passes them, and what is left in lent memory.
-- Assumes nothing.
use Rattle.std.proofs.Common.{◌≡◌, ℕ, ◌+◌, ◌/◌, ◌≤◌, Bool, true, false, List, length, sym, ap, ◌∙◌, Option}
use Rattle.answers.specs.Lent.{over, tab}
use Rattle.answers.specs.Listed.{listed}
use Rattle.answers.specs.Outcome.{Outcome, found, refused}
use Rattle.answers.specs.Table.{Answer, pick, passes, next}
use Rattle.answers.specs.declared.Refusal.{Refusal}
use Rattle.answers.proofs.Lent.{refused-leaves}
use Rattle.answers.proofs.Next.{next-passed, next-zero}
use Rattle.answers.proofs.OneToOne.{refused-not-done}
use Rattle.answers.proofs.Rules.{by_bool}
use Rattle.answers.proofs.Outcome.{found-tells, found-where, refused-tells, refused-where}
use Rattle.layout.specs.Header.{control_of}
use Rattle.layout.specs.Size.{fit_rules}
use Rattle.layout.specs.Triangle.{slots_of}
use Rattle.layout.specs.declared.header.Head.{Head}
use Rattle.elements.specs.declared.head.Places.{Places}
use Rattle.elements.specs.Elements.{head_of, places_of, codes_at, slot_in, correlations, states}
use Rattle.elements.specs.Held.{Within, SlotsHeld}
use Rattle.elements.proofs.Opened.{fit-within}
use Rattle.deviations.specs.declared.form.DeviationRange.{DeviationRange}
use Rattle.deviations.specs.Range.{lent_rule}
use Rattle.deviations.specs.Form.{Form, form_of}
use Rattle.rules.specs.Rules.{element_rules, pack_rules, room_rules}
use Rattle.rules.specs.Decided.{Ready, ready, ready_of, decided}
use Rattle.rules.proofs.Held.{Held, held, rooms}
use Rattle.codes.specs.Store.{store_rules, store_ready, by_words, left_by_words}

-- ---- a pack that rules a) to k) pass
module _ (range : Option DeviationRange) (bytes : List ℕ) (passed : (pack_rules range bytes).number ≡ 0) where
  abbrev h : Head
  h = head_of bytes

  pub lent-passes : (lent_rule range).number ≡ 0
  lent-passes = (next-zero (lent_rule range) (next (fit_rules bytes) (element_rules range bytes h)) passed).0

  parts : ((fit_rules bytes).number ≡ 0) × ((element_rules range bytes h).number ≡ 0)
  parts =
      next-zero (fit_rules bytes) (element_rules range bytes h)
      (next-zero (lent_rule range) (next (fit_rules bytes) (element_rules range bytes h)) passed).1

  within : Within bytes h
  within = fit-within bytes parts.0

  pub all_held : Held bytes h (form_of range h.control)
  all_held = held range bytes h lent-passes within parts.1

  vector-there : h.control.cs ≡ true → h.body + (slots_of h.n + 7) / 8 ≤ length bytes
  vector-there e = rw e at within.vector

-- ---- what is left of the slots' memory, where they are stored by words
module _ (range : Option DeviationRange) (bytes : List ℕ) (ds : ℕ) (cs ss : List ℕ) where
  abbrev rules : Answer
  rules = store_rules range bytes ds (length cs) (length ss)

  abbrev pub Left : Outcome Ready → List ℕ → List ℕ → Type 0
  Left o cs' ss' = (o ≡ store_ready range bytes ds (length cs) (length ss))
      × (cs' ≡ left_by_words range bytes ds (length cs) (length ss) (correlations bytes (head_of bytes)) cs)
      × (ss' ≡ left_by_words range bytes ds (length cs) (length ss) (states bytes (head_of bytes)) ss)

  -- a refusal: all as it was
  kept : (r : Refusal) → rules ≡ listed r → Left (refused (listed r)) cs ss
  kept r e = (
    refused-where rules (ready_of range bytes) r e,
    rw e (either_way (refused-leaves r (correlations bytes (head_of bytes)) cs)),
    rw e (either_way (refused-leaves r (states bytes (head_of bytes)) ss)),
  )
    where
      either_way : {a lent : List ℕ} → a ≡ lent → lent ≡ pick (by_words (control_of bytes) (codes_at (head_of bytes))) a lent
      either_way {a} {lent} p = by_bool (by_words (control_of bytes) (codes_at (head_of bytes))) (λ t. rw t (sym p)) (λ f. rw f)

  -- of a) to k)
  pub pack-stops : (r : Refusal) → refused (listed r) ≡ decided range bytes → Left (refused (listed r)) cs ss
  pack-stops r e =
      let f : pack_rules range bytes ≡ listed r = refused-tells (pack_rules range bytes) (ready_of range bytes) e in
      kept r (rw (f, refused-not-done r))

  -- of l), for a pack that a) to k) pass
  module _ {p : Places} {f : Form} (o : found (ready p f) ≡ decided range bytes) where
    told : ((pack_rules range bytes).number ≡ 0) × (ready p f ≡ ready_of range bytes)
    told = found-tells (pack_rules range bytes) (ready_of range bytes) o

    are : p ≡ places_of (head_of bytes)
    are = ap (λ (x : Ready). x.places) told.1

    by-rooms : (e : Answer) → room_rules p.head ds (length cs) (length ss) ≡ e → rules ≡ e
    by-rooms e k = next-passed (pack_rules range bytes) (room_rules (head_of bytes) ds (length cs) (length ss)) told.0 ∙ rw are at k

    pub room-stops : (r : Refusal) → listed r ≡ room_rules p.head ds (length cs) (length ss) → Left (refused (listed r)) cs ss
    room-stops r e = kept r (by-rooms (listed r) (sym e))

    -- none
    module _ (e : room_rules p.head ds (length cs) (length ss) ≡ passes) where
      pub passed-all : found (ready p f) ≡ store_ready range bytes ds (length cs) (length ss)
      passed-all = ap found told.1 ∙ found-where rules (ready_of range bytes) (ap (λ (x : Answer). x.number) (by-rooms passes e))

      -- left to the plain way
      pub not-stored : {b : Bool} → b ≡ by_words p.head.control p.codes → b ≡ false → Left (found (ready p f)) cs ss
      not-stored q n = let w = rw are at (sym q ∙ n) in (passed-all, rw w, rw w)

      pub stored : {b : Bool} → b ≡ by_words p.head.control p.codes → b ≡ true → {cs' ss' : List ℕ}
          → cs' ≡ over (tab (slots_of p.head.n) (λ k. (slot_in bytes p.head.body p.codes p.head.control k).bits)) cs
          → ss' ≡ over (tab (slots_of p.head.n) (λ k. (slot_in bytes p.head.body p.codes p.head.control k).state)) ss
          → Left (found (ready p f)) cs' ss'
      stored q y a b =
          let z = by-rooms passes e in
          let w = rw are at (sym q ∙ y) in
          (passed-all, rw (w, z) (rw are at a), rw (w, z) (rw are at b))

-- ---- the slots of a pack that the rules pass, at the places that were found
module _ (range : Option DeviationRange) (bytes : List ℕ) (ds : ℕ) (cs ss : List ℕ) {p : Places} {f : Form} (o : found (ready p f) ≡ store_ready range bytes ds (length cs) (length ss)) where
  pub places-told : ((store_rules range bytes ds (length cs) (length ss)).number ≡ 0) × (ready p f ≡ ready_of range bytes)
  places-told = found-tells (store_rules range bytes ds (length cs) (length ss)) (ready_of range bytes) o

  pub both-pass : ((pack_rules range bytes).number ≡ 0) × ((room_rules (head_of bytes) ds (length cs) (length ss)).number ≡ 0)
  both-pass = next-zero (pack_rules range bytes) (room_rules (head_of bytes) ds (length cs) (length ss)) places-told.0

  pub slots-there : SlotsHeld bytes p.head.body p.codes p.head.control (slots_of p.head.n)
      × (p.head.control.cs ≡ true → p.head.body + (slots_of p.head.n + 7) / 8 ≤ length bytes)
      × (slots_of p.head.n ≤ length cs)
      × (slots_of p.head.n ≤ length ss)
  slots-there =
      let are : p ≡ places_of (head_of bytes) = ap (λ (x : Ready). x.places) places-told.1 in
      let room = rooms (head_of bytes) ds (length cs) (length ss) both-pass.1 in
      rw are ((all_held range bytes both-pass.0).slots, vector-there range bytes both-pass.0, room.correlations, room.states)
