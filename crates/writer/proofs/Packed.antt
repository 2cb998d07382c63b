-- The elements, each stored in its place, are the pack; and the plan leaves room for them.
-- Assumes nothing.
use mathlib.Core.Path.{◌≡◌, sym, ap, ◌∙◌}
use mathlib.Core.List.{List, ◌++◌}
use Prim.Native.Nat.{ℕ, ◌+◌, ◌*◌, ◌≤◌}
use native.Mathlib.Omega.{arith}
use lib.ListN.{length, length-append}
use lib.Seq.{sets}
use Rattle.answers.specs.Lent.{over}
use Rattle.answers.proofs.Stored.{sets_over, sets_more, sets-swap}
use Rattle.layout.specs.Size.{max_rows}
use Rattle.numbers.specs.BerOid.{oid_length}
use Rattle.plan.specs.declared.places.Plan.{Plan}
use Rattle.plan.specs.Places.{pack_plan}
use Rattle.plan.specs.Rules.{plan_rules}
use Rattle.plan.proofs.Counts.{plan-counts}
use Rattle.slots.specs.Listed.{slots_over}
use Rattle.slots.specs.Slots.{element3, element5}
use Rattle.slots.proofs.Lengths.{length-3, length-5}
use Rattle.writer.specs.Pack.{element1, element2, element4, others_over, form_bytes, is_sparse, pack_bytes}
use Rattle.writer.proofs.Lengths.{length-1-2, length-4, length-form}

-- b behind a gap, y behind another, then a and x in the gaps
assembled : (out a b x y : List ℕ) {v d c : ℕ} → v ≡ length a → d ≡ v + length b → c ≡ d + length x → c + length y ≤ length out
    → sets (sets (sets (sets out v b) c y) 0 a) d x ≡ over (a ++ b ++ x ++ y) out
assembled out a b x y {v} {d} {c} e f g h =
    let w : length (a ++ b ++ x ++ y) ≤ length out = rw (length-append, length-append, length-append) (omega arith) in
    let va : 0 + length a ≡ v = omega arith in
    let db : 0 + length (a ++ b) ≡ d = rw length-append (omega arith) in
    let cx : 0 + length (a ++ b ++ x) ≡ c = rw (length-append, length-append) (omega arith) in
    rw (← (sets_over (a ++ b ++ x ++ y) out w), sets_more out 0 (a ++ b ++ x) y, cx, sets_more out 0 (a ++ b) x, db, sets_more out 0 a b, va)
    (ap (λ (l : List ℕ). sets l d x) (sym (sets-swap (sets out v b) 0 a c y (omega arith)))
    ∙ ap (λ (l : List ℕ). sets (sets l c y) d x) (sym (sets-swap out 0 a v b (omega arith)))
    ∙ sym (sets-swap (sets (sets out 0 a) v b) d x c y (omega arith)))

-- where no rule refuses
module _ (ds cs : List ℕ) (L : ℕ) (passed : (plan_rules (length ds) cs L).number ≡ 0) where
  abbrev plan : Plan
  plan = pack_plan (length ds) cs L

  pub few-rows : length ds ≤ max_rows
  few-rows = (plan-counts (length ds) cs L passed).rows

  -- the plan's end is the pack's length
  pub plan-end : plan.end ≡ length (pack_bytes ds cs L)
  plan-end = sym (length-form ds cs L (omega (arith, few-rows)) (is_sparse ds cs L))

  -- room for the elements that are not the slots'
  pub others-room : (room : ℕ) → plan.end ≤ room
      → (length ds ≤ max_rows) × (plan.clen ≤ 8) × (oid_length (length ds) + 2 ≤ plan.deviations) × (plan.deviations + 4 * length ds ≤ room)
  others-room room h = (few-rows, (plan-counts (length ds) cs L passed).clen.1, omega arith, omega arith)

  pub packed : (out : List ℕ) → plan.end ≤ length out → others_over ds plan (slots_over cs plan out) ≡ over (pack_bytes ds cs L) out
  unfolding form_bytes
  packed out h =
      let s = is_sparse ds cs L in
      assembled out (element1 (length ds) ++ element2 s L) (element3 s cs) (element4 ds) (element5 s cs L)
      (sym (length-1-2 (length ds) (omega (arith, few-rows)) s L)) (rw length-3) (rw length-4) (rw length-5 h)
