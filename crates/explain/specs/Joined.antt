-- The places of a pack that is accepted: they join up, and each slot's are what the reader decodes.
use Rattle.std.specs.Prelude.{ℕ, zero, suc, ◌-◌, ◌≤◌, ◌<◌, ◌≡◌, List, [], ◌∷◌, ◌++◌, length, get_or, None, Option, Some}
use Rattle.layout.specs.declared.control.ParseControl.{ParseControl}
use Rattle.layout.specs.Triangle.{slots_of}
use Rattle.layout.specs.declared.header.Head.{Head}
use Rattle.elements.specs.declared.slot.Slot.{Slot}
use Rattle.elements.specs.Elements.{head_of, part, slot, absent, code_slot, correlations, states}
use Rattle.explain.specs.declared.spans.Span.{Span}
use Rattle.explain.specs.declared.spans.Elements.{Elements}
use Rattle.explain.specs.declared.slot.SlotCode.{SlotCode}
use Rattle.explain.specs.Spans.{elements_of}
use Rattle.explain.specs.Slots.{slot_from, code_at, slot_code, behind}

-- one behind the other from a place to another, with no gap and no overlap
abbrev pub JoinUp : ℕ → List Span → ℕ → Type 0
JoinUp from [] to = from ≡ to
JoinUp from (s ∷ ss) to = (s.start ≡ from) × (s.start ≤ s.end) × JoinUp s.end ss to

-- the bytes of a slot, where it has some, and of the first k slots
abbrev pub spans_of : Option SlotCode → List Span
spans_of None = []
spans_of (Some code) = code.span ∷ []

abbrev pub code_spans : List ℕ → Head → ℕ → List Span
code_spans bytes h zero = []
code_spans bytes h (suc k) = code_spans bytes h k ++ spans_of (slot_code bytes h k)

-- the slot that a slot's bytes are, and the state that is told of it
abbrev pub slot_for : List ℕ → ParseControl → Option SlotCode → Slot
slot_for bytes c None = absent
slot_for bytes c (Some code) = code_slot c (part bytes code.span.start (code.span.end - code.span.start))

abbrev pub state_told : Option SlotCode → ℕ
state_told None = 0
state_told (Some code) = code.state

module _ (bytes : List ℕ) where
  abbrev h : Head
  h = head_of bytes

  abbrev e : Elements
  e = elements_of bytes

  pub record Joined : Type 0 where
    -- the elements, from 0 to the pack's length
    pub elements : JoinUp 0 (e.n ∷ e.control ∷ e.vector ∷ e.deviations ∷ e.codes ∷ []) (length bytes)
    -- and with the present slots in place of the codes
    pub slots : JoinUp 0 (e.n ∷ e.control ∷ e.vector ∷ e.deviations ∷ code_spans bytes h (slots_of h.n)) (length bytes)
    -- each slot's bytes are those that the reader decodes for it
    pub decoded : (k : ℕ) → k < slots_of h.n
        → slot_for bytes h.control (slot_code bytes h k)
        ≡ slot (get_or (correlations bytes h) k 0) (get_or (states bytes h) k 0)
    -- and its state is the one that is told
    pub state : (k : ℕ) → k < slots_of h.n → state_told (slot_code bytes h k) ≡ get_or (states bytes h) k 0
    -- told slot by slot, with the next code's place carried along
    pub first : code_at bytes h 0 ≡ e.codes.start
    pub told : (k : ℕ) → k < slots_of h.n → slot_from bytes h k (code_at bytes h k) ≡ slot_code bytes h k
    pub next : (k : ℕ) → behind (code_at bytes h k) (slot_code bytes h k) ≡ code_at bytes h (suc k)
