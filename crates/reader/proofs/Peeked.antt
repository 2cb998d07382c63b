-- Where peek gives nothing the reader refuses, by one of a) to g) and with its answer; and what it tells that it is done.
-- Assumes nothing.
use mathlib.Core.Path.{◌≡◌, refl}
use mathlib.Core.List.{List}
use Prim.Native.Nat.{ℕ}
use borrow.Author.Tests.{ne_eqb}
use Rattle.std.specs.Prelude.{None, Option}
use Rattle.layout.specs.Size.{peeked, fit_rules}
use Rattle.layout.proofs.Peek.{peek-nothing}
use Rattle.answers.specs.Table.{next}
use Rattle.answers.proofs.Next.{next-zero, next-passed}
use Rattle.layout.specs.Triangle.{slots_of}
use Rattle.elements.specs.Elements.{head_of, deviation_count}
use Rattle.deviations.specs.declared.form.DeviationRange.{DeviationRange}
use Rattle.deviations.specs.Range.{lent_rule}
use Rattle.rules.specs.Rules.{element_rules, pack_rules, room_rules}
use Rattle.rules.proofs.Held.{Rooms, rooms}
use Rattle.codes.specs.Store.{store_rules}
use Rattle.reader.specs.Rules.{done, read_answer_in, read_answer}

pub nothing-refused : (bytes : List ℕ) (ds cs ss : ℕ) → peeked bytes ≡ None
    → (read_answer bytes ds cs ss ≡ fit_rules bytes) × ((read_answer bytes ds cs ss).number ≡ 0 → ⊥)
nothing-refused bytes ds cs ss e =
    let f = ne_eqb (fit_rules bytes).number 0 (peek-nothing bytes e) in
    rw (f, f, f) (refl, peek-nothing bytes e)

-- and where the reader refuses nothing, it is done, and a) to g) have passed
module _ (range : Option DeviationRange) (bytes : List ℕ) (ds cs ss : ℕ) (z : (read_answer_in range bytes ds cs ss).number ≡ 0) where
  passed : (store_rules range bytes ds cs ss).number ≡ 0
  passed = (next-zero (store_rules range bytes ds cs ss) (done (head_of bytes)) z).0

  pub read_done : read_answer_in range bytes ds cs ss ≡ done (head_of bytes)
  read_done = next-passed (store_rules range bytes ds cs ss) (done (head_of bytes)) passed

  -- the rooms hold what is stored
  pub read-rooms : Rooms (deviation_count (head_of bytes)) (slots_of (head_of bytes).n) ds cs ss
  read-rooms = rooms (head_of bytes) ds cs ss (next-zero (pack_rules range bytes) (room_rules (head_of bytes) ds cs ss) passed).1

  pub read_fits : (fit_rules bytes).number ≡ 0
  read_fits =
      let p = (next-zero (pack_rules range bytes) (room_rules (head_of bytes) ds cs ss) passed).0 in
      let f = (next-zero (lent_rule range) (next (fit_rules bytes) (element_rules range bytes (head_of bytes))) p).1 in
      (next-zero (fit_rules bytes) (element_rules range bytes (head_of bytes)) f).0
