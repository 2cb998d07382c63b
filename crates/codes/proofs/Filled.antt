-- The slots one behind the other: where each has its code, and that none is refused.
-- Assumes nothing.
use Rattle.std.proofs.Common.{◌≡◌, ℕ, ◌+◌, ◌*◌, ◌<◌, ◌≤◌, Bool, true, false, List, length, refl, ap, suc-mul, zero-mul, add-one, arith}
use Rattle.answers.specs.Outcome.{found}
use Rattle.answers.specs.Table.{Answer, pick}
use Rattle.layout.specs.declared.control.ParseControl.{ParseControl}
use Rattle.elements.specs.Elements.{part, absent, code_slot, present_in, present_before, slot_in}
use Rattle.elements.specs.Formats.{code_format}
use Rattle.elements.specs.Held.{SlotsHeld}
use Rattle.elements.specs.Slots.{slot_read}
use Rattle.elements.proofs.Parts.{element-held, ends}
use Rattle.elements.proofs.Vector.{present-more, present-le, present-grows}

module _ (bytes : List ℕ) (vector codes : ℕ) (c : ParseControl) where
  -- where slot k has its code, if it is present
  abbrev pub code_at : ℕ → ℕ
  code_at k = codes + present_before bytes vector c k * c.clen

  pub first_code : codes ≡ code_at 0
  first_code = let z : present_before bytes vector c 0 ≡ 0 = omega (arith, present-le bytes vector c 0) in rw z (omega (arith, zero-mul c.clen))

  module _ (k : ℕ) where
    pub behind-present : present_in bytes vector c k ≡ true → code_at k + c.clen ≡ code_at (k + 1)
    behind-present t =
        rw (add-one, present-more bytes vector c k, t, add-one) (omega (arith, suc-mul (present_before bytes vector c k) c.clen))

    pub behind-absent : present_in bytes vector c k ≡ false → code_at k ≡ code_at (k + 1)
    behind-absent f = rw (add-one, present-more bytes vector c k, f) (ap (λ (n : ℕ). codes + n * c.clen) (omega arith))

  module _ {slots : ℕ} (k : ℕ) (h : SlotsHeld bytes vector codes c slots) (l : k < slots) where
    -- one of the codes that are there
    pub among : present_in bytes vector c k ≡ true → present_before bytes vector c k < present_before bytes vector c slots
    among t = omega (arith, rw t at (present-more bytes vector c k), present-grows bytes vector c l)

    pub code-held : present_in bytes vector c k ≡ true → {at : ℕ} → at ≡ code_at k → at + c.clen ≤ length bytes
    code-held t e = omega (arith, h.whole, ends codes c.clen (among t))

    pub slot_held : {at : ℕ} {b : Bool} → at ≡ code_at k → b ≡ present_in bytes vector c k → slot_read bytes at c b ≡ found (slot_in bytes vector codes c k)
    slot_held e f = rw (e, f) (go (present_in bytes vector c k) refl)
      where
        go : (b : Bool) → present_in bytes vector c k ≡ b → slot_read bytes (code_at k) c b ≡ found (pick b (code_slot c (part bytes (code_at k) c.clen)) absent)
        go false e = refl
        go true e =
            element-held bytes (code_at k) c.clen (code_format c) (code_slot c (part bytes (code_at k) c.clen)) (code-held e refl)
            (ap (λ (a : Answer). a.number) (h.format (omega (arith, among e))))
