-- The places of a pack that is accepted join up to its length, and each slot's bytes are those that the reader decodes.
-- Assumes nothing.
use mathlib.Core.Path.{◌≡◌, refl, sym, ap, ◌∙◌}
use mathlib.Core.Bool.{Bool, true}
use mathlib.Core.List.{List, [], ◌∷◌, ◌++◌}
use Prim.Native.Nat.{ℕ, zero, suc, ◌+◌, ◌-◌, ◌<◌}
use native.Mathlib.Nat.{zero-mul, suc-mul, mul-le-mul_right}
use native.Mathlib.Numerals.{add-one}
use native.Mathlib.Omega.{arith}
use lib.ListN.{length, get_or}
use Rattle.answers.specs.Table.{Answer}
use Rattle.answers.specs.Outcome.{found}
use Rattle.answers.proofs.Lent.{get_or-tab}
use Rattle.answers.proofs.Rules.{by_bool}
use Rattle.layout.specs.Ruled.{passed}
use Rattle.layout.specs.Triangle.{slots_of}
use Rattle.layout.specs.declared.header.Head.{Head}
use Rattle.elements.specs.declared.slot.Slot.{Slot}
use Rattle.elements.specs.Elements.{head_of, part, codes_at, present_in, present_before, slot, code_slot, slot_in, correlations, states}
use Rattle.elements.specs.Formats.{code_format}
use Rattle.elements.specs.Held.{SlotsHeld}
use Rattle.elements.specs.Slots.{present_read}
use Rattle.elements.proofs.Parts.{element-held}
use Rattle.elements.proofs.Vector.{present-le, present-more, present-grows}
use Rattle.rules.specs.Named.{pack_ruled}
use Rattle.explain.specs.declared.spans.Span.{Span}
use Rattle.explain.specs.Spans.{elements_of}
use Rattle.explain.specs.Slots.{slot_from, code_at, slot_code, behind}
use Rattle.explain.proofs.Ends.{slots-held, ends}
use Rattle.explain.proofs.Slots.{present}
use Rattle.explain.specs.Joined.{JoinUp, spans_of, code_spans, slot_for, state_told, Joined}

-- what joins up to a place, and behind it what joins up from there
join-append : (a b c : ℕ) (xs ys : List Span) → JoinUp a xs b → JoinUp b ys c → JoinUp a (xs ++ ys) c
join-append a b c [] ys e j = rw e j
join-append a b c (x ∷ xs) ys p j = (p.0, p.1, join-append x.end b c xs ys p.2 j)

-- ---- the slots of a pack of that head
module _ (bytes : List ℕ) (h : Head) where
  abbrev size : ℕ
  size = h.control.clen

  -- a slot is present, and so many before it are
  abbrev there : ℕ → Bool
  there k = present_in bytes h.body h.control k

  abbrev before : ℕ → ℕ
  before k = present_before bytes h.body h.control k

  -- the first code is at their start
  code-first : code_at bytes h 0 ≡ codes_at h
  code-first =
      let z : before 0 ≡ 0 = omega (arith, present-le bytes h.body h.control 0) in
      rw (z, zero-mul size) (omega arith)

  -- the next code is behind the slot
  code-next : (k : ℕ) → behind (code_at bytes h k) (slot_code bytes h k) ≡ code_at bytes h (suc k)
  code-next k =
      rw (present-more bytes h.body h.control k)
      (by_bool (there k) (λ t. rw (t, add-one) (omega (arith, suc-mul (before k) size))) (λ f. rw f (omega arith)))

  -- so the codes of the first k slots join up
  codes-join : (k : ℕ) → JoinUp (codes_at h) (code_spans bytes h k) (code_at bytes h k)
  codes-join zero = sym code-first
  codes-join (suc k) =
      join-append (codes_at h) (code_at bytes h k) _ (code_spans bytes h k) (spans_of (slot_code bytes h k)) (codes-join k) (rw (← code-next k) one)
    where
      one : JoinUp (code_at bytes h k) (spans_of (slot_code bytes h k)) (behind (code_at bytes h k) (slot_code bytes h k))
      one = by_bool (there k) (λ t. rw t (refl, omega arith, refl)) (λ f. rw f refl)

  -- a slot's bytes are those that are decoded, and its state is the one that is told
  abbrev decoded_at : ℕ → Slot
  decoded_at k = slot_in bytes h.body (codes_at h) h.control k

  code-decoded : (k : ℕ) → k < slots_of h.n
      → slot_for bytes h.control (slot_code bytes h k) ≡ slot (get_or (correlations bytes h) k 0) (get_or (states bytes h) k 0)
  code-decoded k l =
      rw (get_or-tab (slots_of h.n) (λ k. (decoded_at k).bits) k l, get_or-tab (slots_of h.n) (λ k. (decoded_at k).state) k l)
      (by_bool (there k) (λ t. let e : code_at bytes h k + size - code_at bytes h k ≡ size = omega arith in rw (t, e)) (λ f. rw f))

  code-state : (k : ℕ) → k < slots_of h.n → state_told (slot_code bytes h k) ≡ get_or (states bytes h) k 0
  code-state k l =
      rw (get_or-tab (slots_of h.n) (λ k. (decoded_at k).state) k l) (by_bool (there k) (λ t. rw t) (λ f. rw f))

  -- where the codes are whole and in a format that is read, each is found
  code-told : SlotsHeld bytes h.body (codes_at h) h.control (slots_of h.n) → (k : ℕ) → k < slots_of h.n
      → slot_from bytes h k (code_at bytes h k) ≡ slot_code bytes h k
  code-told w k l =
      by_bool (there k) (λ t. sym (present bytes h k (code_at bytes h k) t (sym (found-there t))) ∙ rw t) (λ f. rw f)
    where
      found-there : there k ≡ true → present_read bytes (code_at bytes h k) h.control ≡ found (code_slot h.control (part bytes (code_at bytes h k) size))
      found-there t =
          let e : code_at bytes h k + size ≡ code_at bytes h (suc k) = rw t at (code-next k) in
          let g = present-grows bytes h.body h.control l in
          let some : 0 < before (slots_of h.n) = omega (arith, g, rw t at (present-more bytes h.body h.control k)) in
          element-held bytes (code_at bytes h k) size (code_format h.control) (code_slot h.control (part bytes (code_at bytes h k) size))
          (omega (arith, w.whole, mul-le-mul_right size g)) (ap (λ (a : Answer). a.number) (w.format some))

-- ---- a pack that is accepted
module _ (bytes : List ℕ) (e : pack_ruled bytes ≡ passed) where
  abbrev h : Head
  h = head_of bytes

  -- the elements before the codes, and behind them what joins up
  before-codes : (ss : List Span) → JoinUp (codes_at h) ss (length bytes)
      → JoinUp 0 ((elements_of bytes).n ∷ (elements_of bytes).control ∷ (elements_of bytes).vector ∷ (elements_of bytes).deviations ∷ ss) (length bytes)
  before-codes ss j = (refl, omega arith, (refl, omega arith, (refl, omega arith, (refl, omega arith, j))))

  -- its places join up, and tell what is decoded
  pub joined : Joined bytes
  joined = record {
    elements = before-codes ((elements_of bytes).codes ∷ []) (refl, omega arith, sym (ends bytes e));
    slots = before-codes (code_spans bytes h (slots_of h.n)) (rw (ends bytes e) (codes-join bytes h (slots_of h.n)));
    decoded = code-decoded bytes h;
    state = code-state bytes h;
    first = code-first bytes h;
    told = code-told bytes h (slots-held bytes e);
    next = code-next bytes h;
  }
