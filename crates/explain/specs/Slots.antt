-- The bytes of each slot's code and what it was, or absent.
use Rattle.std.specs.Prelude.{ℕ, ◌+◌, ◌*◌, List, None, Option, Some}
use Rattle.answers.specs.Table.{pick}
use Rattle.answers.specs.Outcome.{Outcome, found, refused}
use Rattle.layout.specs.declared.control.ParseControl.{ParseControl}
use Rattle.layout.specs.declared.header.Head.{Head}
use Rattle.elements.specs.declared.slot.Slot.{Slot}
use Rattle.elements.specs.Elements.{part, codes_at, present_in, present_before, code_slot}
use Rattle.elements.specs.Slots.{present_read}
use Rattle.explain.specs.declared.slot.SlotCode.{SlotCode}
use Rattle.explain.specs.declared.spans.Span.{Span}
use Rattle.explain.specs.Spans.{span}

-- a code of those bytes, which was that
abbrev pub code_of : Span → ℕ → SlotCode
code_of s x = record { span = s; state = x }

-- a code that starts at `at`, by what reading it gives; one that is refused is told as none
abbrev pub code_told : ℕ → ParseControl → Outcome Slot → Option SlotCode
code_told at c (found s) = Some (code_of (span at (at + c.clen)) s.state)
code_told at c (refused a) = None

-- slot k of a pack of that head, where the next code starts at `at`, by the reader's rules
abbrev pub slot_from : List ℕ → Head → ℕ → ℕ → Option SlotCode
slot_from bytes h k at =
    pick (present_in bytes h.body h.control k)
    (code_told at h.control (present_read bytes at h.control))
    None

-- where the code of slot k starts: behind those of the present slots before it
abbrev pub code_at : List ℕ → Head → ℕ → ℕ
code_at bytes h k = codes_at h + present_before bytes h.body h.control k * h.control.clen

-- slot k of a pack
abbrev pub slot_code : List ℕ → Head → ℕ → Option SlotCode
slot_code bytes h k =
    pick (present_in bytes h.body h.control k)
    (Some (code_of (span (code_at bytes h k) (code_at bytes h k + h.control.clen))
    (code_slot h.control (part bytes (code_at bytes h k) h.control.clen)).state))
    None

-- where the next code starts, behind a slot
abbrev pub behind : ℕ → Option SlotCode → ℕ
behind at None = at
behind at (Some code) = code.span.end
