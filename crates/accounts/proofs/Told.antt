-- What the parts that tell of slots may count on: it holds of a pack that is accepted, and tells each slot.
-- Assumes nothing.
use mathlib.Core.Path.{◌≡◌, ◌∙◌}
use mathlib.Core.List.{List}
use Prim.Native.Nat.{ℕ, ◌+◌, ◌<◌, ◌^◌}
use native.Mathlib.Numerals.{add-one}
use native.Mathlib.Omega.{arith}
use Rattle.std.specs.Prelude.{Option}
use Rattle.layout.specs.Ruled.{passed}
use Rattle.layout.specs.Triangle.{slots_of}
use Rattle.layout.proofs.RowByRow.{square-fits}
use Rattle.layout.specs.declared.header.Head.{Head}
use Rattle.elements.specs.Elements.{head_of}
use Rattle.rules.specs.Named.{pack_ruled}
use Rattle.explain.specs.declared.slot.SlotCode.{SlotCode}
use Rattle.explain.specs.Slots.{slot_from, code_at, slot_code, behind}
use Rattle.explain.specs.Joined.{Joined}
use Rattle.explain.proofs.Joined.{joined}
use Rattle.accounts.specs.Held.{Told}

-- ---- a pack that is accepted
module _ (bytes : List ℕ) (e : pack_ruled bytes ≡ passed) where
  abbrev h : Head
  h = head_of bytes

  abbrev j : Joined bytes
  j = joined bytes e

  pub told : Told bytes h
  told = record { each = j.told; next = j.next }

-- ---- the slot that is told where the place of its code is carried along
module _ {bytes : List ℕ} {h : Head} (t : Told bytes h) {k at : ℕ} {c : Option SlotCode} (l : k < slots_of h.n) (e : at ≡ code_at bytes h k) (q : c ≡ slot_from bytes h k at) where
  pub is-slot : c ≡ slot_code bytes h k
  is-slot = q ∙ rw e (t.each k l)

  pub slot-behind : behind at c ≡ code_at bytes h (k + 1)
  slot-behind = rw (is-slot, e, add-one) (t.next k)

-- the slots can be counted
pub slots-fit : (n : ℕ) → n < 2 ^ 32 → slots_of n < 2 ^ 63
unfolding slots_of
slots-fit n h = omega (arith, square-fits n h)
