-- One slot's code: by whether it is present, and what reading it gives.
-- Assumes nothing.
use mathlib.Core.Path.{◌≡◌, ap}
use mathlib.Core.Bool.{Bool, true, false}
use mathlib.Core.List.{List}
use Prim.Native.Nat.{ℕ, ◌-◌, ◌≤◌}
use native.Mathlib.Omega.{arith}
use borrow.Author.Tests.{ltb-false}
use lib.Dec.{ltb}
use lib.ListN.{length}
use Rattle.answers.specs.Table.{Answer, short}
use Rattle.answers.specs.Outcome.{Outcome, found, unless}
use Rattle.answers.proofs.Rules.{picked}
use Rattle.layout.specs.declared.control.ParseControl.{ParseControl}
use Rattle.layout.specs.declared.header.Head.{Head}
use Rattle.elements.specs.declared.slot.Slot.{Slot}
use Rattle.elements.specs.Elements.{part, present_in, code_slot}
use Rattle.elements.specs.Formats.{code_format}
use Rattle.elements.specs.Slots.{present_read}
use Rattle.std.specs.Prelude.{None}
use Rattle.explain.specs.Slots.{code_told, slot_from}

module _ (bytes : List ℕ) (h : Head) (k at : ℕ) where
  abbrev there : Bool
  there = present_in bytes h.body h.control k

  pub absent : there ≡ false → None ≡ slot_from bytes h k at
  absent f = rw f

  pub present : there ≡ true → {r : Outcome Slot} → r ≡ present_read bytes at h.control
      → code_told at h.control r ≡ slot_from bytes h k at
  present t e = rw t (ap (code_told at h.control) e)

-- a code that is found ends within the bytes
pub found_within : (bytes : List ℕ) (at : ℕ) (c : ParseControl) {s : Slot} → found s ≡ present_read bytes at c
    → c.clen ≤ length bytes - at
found_within bytes at c {s} =
    picked (λ (a : Answer). found s ≡ unless a (code_slot c (part bytes at c.clen)) → c.clen ≤ length bytes - at)
    (ltb (length bytes - at) c.clen) (short c.clen (length bytes - at)) (code_format c)
    (λ _ e. let z : ◌≡◌ {A = ℕ} 0 1 = cc in absurd (omega arith)) (λ f _. ltb-false (length bytes - at) c.clen f)
