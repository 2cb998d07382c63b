-- How long the text of the slots is at most.
-- Assumes nothing.
use mathlib.Core.Path.{sym, ap, ◌∙◌}
use mathlib.Core.Bool.{Bool}
use mathlib.Core.List.{List, ◌++◌}
use Prim.Native.Nat.{ℕ, zero, suc, ◌+◌, ◌-◌, ◌*◌, ◌≤◌}
use native.Mathlib.Nat.{add-mul, mul-le-mul_right}
use native.Mathlib.Numerals.{add-one}
use native.Mathlib.Omega.{arith}
use lib.ListN.{length, length-append}
use Rattle.std.specs.Prelude.{None, Option, Some}
use Rattle.answers.specs.Lent.{joined}
use Rattle.answers.proofs.Joined.{joined-le}
use Rattle.answers.proofs.Rules.{picked}
use Rattle.layout.specs.Triangle.{slots_of, slot_of}
use Rattle.layout.proofs.RowByRow.{row_next, row_within}
use Rattle.layout.specs.declared.header.Head.{Head}
use Rattle.elements.specs.Elements.{part, present_in, code_slot}
use Rattle.explain.specs.declared.slot.SlotCode.{SlotCode}
use Rattle.explain.specs.Slots.{code_at, code_of, slot_code}
use Rattle.explain.specs.Spans.{span}
use Rattle.parts.specs.Parts.{gap, slot_text}
use Rattle.parts.proofs.Fits.{absent-length, at_length}
use Rattle.accounts.specs.Account.{row_text, slots_text}

slot-length : (lines : Bool) (bytes : List ℕ) (i j : ℕ) (h : Head) (k : ℕ)
    → length (gap lines ++ slot_text lines bytes i j (slot_code bytes h k)) ≤ 111 + 2 * h.control.clen
slot-length lines bytes i j h k =
    let s = span (code_at bytes h k) (code_at bytes h k + h.control.clen) in
    let x = (code_slot h.control (part bytes (code_at bytes h k) h.control.clen)).state in
    picked (λ (c : Option SlotCode). length (gap lines ++ slot_text lines bytes i j c) ≤ 111 + 2 * h.control.clen) (present_in bytes h.body h.control k)
    (Some (code_of s x)) None (λ _. omega (arith, at_length lines bytes i j s x)) (λ _. omega (arith, absent-length lines bytes i j))

-- row by row
module _ (lines : Bool) (bytes : List ℕ) (h : Head) where
  abbrev most : ℕ
  most = 111 + 2 * h.control.clen

  row-length : (i : ℕ) → length (row_text lines bytes h i) ≤ (h.n - 1 - i) * most
  row-length i =
      joined-le _ most (h.n - 1 - i)
      (λ k _. slot-length lines bytes i (i + 1 + k) h (slot_of h.n i (i + 1 + k)))

  rows-length : (i : ℕ) → i ≤ h.n → length (joined i (row_text lines bytes h)) ≤ slot_of h.n i (i + 1) * most
  rows-length zero l = omega arith
  rows-length (suc i) l =
      let n = h.n in
      let e = ap (λ (x : ℕ). slot_of n x (x + 1)) (sym (add-one i)) ∙ row_next n i l in
      rw (length-append (joined i (row_text lines bytes h)), e)
      (omega (arith, rows-length i (omega arith), row-length i, add-mul (slot_of n i (i + 1)) (n - 1 - i) most))

  pub slots_length : length (slots_text lines bytes h) ≤ slots_of h.n * (111 + 2 * h.control.clen)
  slots_length = omega (arith, rows-length h.n (omega arith), mul-le-mul_right most (row_within h.n h.n (omega arith)))
