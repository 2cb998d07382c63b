-- One slot of a pack, or the refusal that reading it gives.
use Rattle.std.specs.Prelude.{ℕ, Bool, List, Err, Ok, Result}
use Rattle.answers.specs.Table.{pick}
use Rattle.answers.specs.Listed.{listed}
use Rattle.answers.specs.Outcome.{Outcome, found, refused}
use Rattle.imapb.specs.Tables.{Reading, reads}
use Rattle.imapb.specs.Tables as imapb
use Rattle.layout.specs.declared.control.ParseControl.{ParseControl}
use Rattle.elements.specs.declared.slot.Slot.{Slot}
use Rattle.elements.specs.Elements.{part, slot, absent, decoded_slot, code_slot}
use Rattle.elements.specs.Formats.{code_format}
use Rattle.elements.specs.Numbers.{element}
use Rattle.answers.specs.declared.Refusal.{Refusal}

abbrev pub slot_listed : Result Slot Refusal → Outcome Slot
slot_listed (Ok s) = found s
slot_listed (Err r) = refused (listed r)

-- what a code reads as, and an IEEE number, as a slot
abbrev pub mapped_slot : Reading → Outcome Slot
mapped_slot (reads d) = found (decoded_slot d)
mapped_slot (imapb.refused a) = refused a

abbrev pub ieee_slot : Outcome ℕ → Outcome Slot
ieee_slot (found b) = found (slot b 1)
ieee_slot (refused a) = refused a

-- a slot that is present, whose code starts at `at`
abbrev pub present_read : List ℕ → ℕ → ParseControl → Outcome Slot
present_read bytes at c = element bytes at c.clen (code_format c) (code_slot c (part bytes at c.clen))

abbrev pub slot_read : List ℕ → ℕ → ParseControl → Bool → Outcome Slot
slot_read bytes at c present = pick present (present_read bytes at c) (found absent)
