-- A slot's state: one of five, and 0 exactly where the slot is absent.
-- Assumes nothing.
use mathlib.Core.Path.{◌≡◌}
use mathlib.Core.Bool.{not}
use mathlib.Core.List.{List}
use Prim.Native.Nat.{ℕ, ◌+◌, ◌*◌, ◌≤◌}
use native.Mathlib.Omega.{arith}
use borrow.Author.Tests.{ne_eqb}
use lib.Dec.{eqb}
use Rattle.answers.proofs.Rules.{by_bool}
use Rattle.numbers.specs.Words.{word_of}
use Rattle.imapb.specs.declared.decode.DecodedImapb.{DecodedImapb}
use Rattle.imapb.specs.declared.decode.DecodedImapb.TheVariants.{Value, Special, ReservedSpecial, OutOfRange}
use Rattle.imapb.specs.Special.{reading}
use Rattle.layout.specs.declared.control.ParseControl.{ParseControl}
use Rattle.elements.specs.Elements.{part, state_of, code_slot, present_in, present_before, slot_in}

-- of a code
a-state : (d : DecodedImapb) → (1 ≤ state_of d) × (state_of d ≤ 4)
a-state (Value x) = (omega arith, omega arith)
a-state (Special s) = (omega arith, omega arith)
a-state (ReservedSpecial y) = (omega arith, omega arith)
a-state (OutOfRange x) = (omega arith, omega arith)

code-state : (c : ParseControl) (raw : List ℕ) → (1 ≤ (code_slot c raw).state) × ((code_slot c raw).state ≤ 4)
code-state c raw = by_bool c.cf (λ t. rw t (a-state (reading c.clen (word_of raw)))) (λ f. rw f (omega arith, omega arith))

module _ (bytes : List ℕ) (at codes : ℕ) (c : ParseControl) (k : ℕ) where
  abbrev raw : List ℕ
  raw = part bytes (codes + present_before bytes at c k * c.clen) c.clen

  pub state-most : (slot_in bytes at codes c k).state ≤ 4
  state-most = by_bool (present_in bytes at c k) (λ t. rw t (code-state c raw).1) (λ f. rw f (omega arith))

  pub state-absent : eqb (slot_in bytes at codes c k).state 0 ≡ not (present_in bytes at c k)
  state-absent =
      by_bool (present_in bytes at c k) (λ t. rw (t, ne_eqb (code_slot c raw).state 0 (λ z. omega (arith, code-state c raw)))) (λ f. rw f)
