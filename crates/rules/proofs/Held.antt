-- What a pack that passes rules h) to k) holds: its elements, whole and in formats that are read.
-- Assumes nothing.
use mathlib.Core.Path.{◌≡◌, refl}
use mathlib.Core.List.{List}
use mathlib.Core.Logic.{inl, inr, by_cases}
use Prim.Native.Nat.{ℕ, zero, suc, ◌+◌, ◌-◌, ◌*◌, ◌≤◌, ◌<◌}
use native.Mathlib.Nat.{zero-mul, mul-zero, suc-mul, mul-le-mul_right, lt_of_not-le}
use native.Mathlib.Decide.{dec_le, ℕ_discrete}
use native.Mathlib.Omega.{arith}
use borrow.Author.Tests.{eqb-true, eqb-false, ltb-false}
use lib.Dec.{eqb, ltb}
use lib.ListN.{length}
use Rattle.std.specs.Prelude.{Option}
use Rattle.answers.specs.Table.{Answer, short, passes, next}
use Rattle.answers.proofs.Rules.{picked}
use Rattle.answers.proofs.Next.{next-zero, Says, rules}
use Rattle.layout.specs.Size.{max_rows, max_slots}
use Rattle.layout.specs.Triangle.{slots_of}
use Rattle.layout.proofs.RowByRow.{few-slots}
use Rattle.layout.specs.declared.header.Head.{Head}
use Rattle.elements.specs.Elements.{deviations_at, deviation_count, codes_at, present_count}
use Rattle.elements.specs.Formats.{code_format}
use Rattle.elements.specs.Numbers.{element_rule}
use Rattle.elements.specs.Held.{SlotsHeld, Within}
use Rattle.deviations.specs.declared.form.DeviationRange.{DeviationRange}
use Rattle.deviations.specs.Range.{lent_rule, row_part}
use Rattle.deviations.specs.Form.{Form, form_of, form_format}
use Rattle.rules.specs.Rules.{in_turn, rule_h, rule_i, rule_j, rule_k, element_rules, rooms_rule, room_rules}
use Rattle.rules.proofs.InTurn.{Format}
use Rattle.rules.proofs.Decided.{by_form, code-format}
use Rattle.rules.proofs.Named.{element-answers}
use Rattle.elements.proofs.Vector.{present-le}

-- ---- how large the counts can be
pub count-le : (h : Head) → deviation_count h ≤ h.n
count-le h = picked (λ (m : ℕ). m ≤ h.n) (eqb h.control.slen 0) 0 h.n (λ _. omega arith) (λ _. omega arith)

-- no deviations are of no bytes
pub count-bytes : (h : Head) → deviation_count h * h.control.slen ≡ h.n * h.control.slen
count-bytes h =
    picked (λ (m : ℕ). m * h.control.slen ≡ h.n * h.control.slen) (eqb h.control.slen 0) 0 h.n
    (λ t. rw (eqb-true h.control.slen 0 t, mul-zero h.n)) (λ _. refl)

module _ {bytes : List ℕ} {h : Head} (w : Within bytes h) where
  pub few-deviations : deviation_count h * h.control.slen ≤ max_rows * h.control.slen
  few-deviations = let l : deviation_count h ≤ max_rows = omega (arith, count-le h, w.rows) in mul-le-mul_right h.control.slen l

  pub few : slots_of h.n ≤ max_slots
  few = few-slots h.n w.rows

  pub few-codes : present_count bytes h * h.control.clen ≤ max_slots * h.control.clen
  few-codes =
      let l : present_count bytes h ≤ max_slots = omega (arith, few, present-le bytes h.body h.control (slots_of h.n)) in
      mul-le-mul_right h.control.clen l

-- ---- what elements that pass in turn are: whole, in a format that is read
passed : {format : Answer} → Format format → format.number ≡ 0 → format ≡ passes
passed (inl e) z = e
passed {format} (inr e) z = absurd (eqb-false format.number 0 e z)

module _ (bytes : List ℕ) (at size : ℕ) (format : ℕ → Answer) where
  enough : (n : ℕ) → at ≤ length bytes → size ≤ length bytes - (at + n * size) → at + suc n * size ≤ length bytes
  enough n w h =
      by_cases (ℕ_discrete size 0) (λ (z : size ≡ 0). rw (z, mul-zero (suc n)) (omega arith)) (λ (z : size ≡ 0 → ⊥). omega (arith, suc-mul n size))

  pub turns-held : (n : ℕ) → at ≤ length bytes → (in_turn bytes at size format n).number ≡ 0
      → (at + n * size ≤ length bytes) × ((i : ℕ) → i < n → (format i).number ≡ 0)
  turns-held zero w e = (omega (arith, zero-mul size), λ i l. absurd (omega arith))
  turns-held (suc n) w e =
      let t = next-zero (in_turn bytes at size format n) (element_rule bytes (at + n * size) size (format n)) e in
      let last : (at + suc n * size ≤ length bytes) × ((format n).number ≡ 0) =
      picked (λ x. x.number ≡ 0 → (at + suc n * size ≤ length bytes) × ((format n).number ≡ 0)) (ltb (length bytes - (at + n * size)) size) (short size (length bytes - (at + n * size))) (format n)
      (λ _ z. absurd (omega arith)) (λ t z. (enough n w (ltb-false (length bytes - (at + n * size)) size t), z)) t.1 in
      (last.0, λ i l. elim (dec_le n i) [ yes h ↦ let p : i ≡ n = omega arith in rw p last.1 | no h ↦ (turns-held n w t.0).1 i (lt_of_not-le h) ])

-- ---- rules h) to k): the deviations by the form that they are read in
pub record Held (bytes : List ℕ) (h : Head) (f : Form) : Type 0 where
  pub deviations : deviations_at h + deviation_count h * h.control.slen ≤ length bytes
  pub each : (i : ℕ) → i < deviation_count h
      → (form_format f h.control i (row_part bytes (deviations_at h) h.control i)).number ≡ 0
  pub slots : SlotsHeld bytes h.body (codes_at h) h.control (slots_of h.n)

pub held : (range : Option DeviationRange) (bytes : List ℕ) (h : Head) → (lent_rule range).number ≡ 0 → Within bytes h
    → (element_rules range bytes h).number ≡ 0 → Held bytes h (form_of range h.control)
held range bytes h z w e =
    let k = h.control in
    let a = next-zero (rule_h range bytes h) _ (rw (element-answers range bytes h) at e) in
    let b = next-zero (rule_i bytes h) (next (rule_j bytes h) (rule_k bytes h)) a.1 in
    let j = next-zero (rule_j bytes h) (rule_k bytes h) b.1 in
    let ds =
    turns-held bytes (deviations_at h) k.slen (λ i. form_format (form_of range k) k i (row_part bytes (deviations_at h) k i)) (deviation_count h) w.vector
    (rw (by_form range bytes (deviations_at h) k z (deviation_count h)) a.0) in
    let l : codes_at h ≤ length bytes = omega (arith, ds.0, count-bytes h) in
    let cs = turns-held bytes (codes_at h) k.clen (λ _. code_format k) (present_count bytes h) l j.0 in
    record { deviations = ds.0; each = ds.1; slots = record { whole = cs.0; format = λ p. passed (code-format k) (cs.1 0 p) } }

-- ---- rule l), and of any matrix of so many rows and slots
pub record Rooms (rows slots ds cs ss : ℕ) : Type 0 where
  pub deviations : rows ≤ ds
  pub correlations : slots ≤ cs
  pub states : slots ≤ ss

rooms-tell : (rows slots ds cs ss : ℕ) → Says (λ _. Rooms rows slots ds cs ss) (rooms_rule rows slots ds cs ss)
rooms-tell rows slots ds cs ss = search (rules, ltb-false) depth 7

pub rooms-for : (rows slots ds cs ss : ℕ) → (rooms_rule rows slots ds cs ss).number ≡ 0 → Rooms rows slots ds cs ss
rooms-for rows slots ds cs ss z = (rooms-tell rows slots ds cs ss).done z

pub rooms : (h : Head) (ds cs ss : ℕ) → (room_rules h ds cs ss).number ≡ 0 → Rooms (deviation_count h) (slots_of h.n) ds cs ss
rooms h = rooms-for (deviation_count h) (slots_of h.n)
