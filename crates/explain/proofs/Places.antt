-- The place of the rule that refuses a pack, as the code finds it.
-- Assumes nothing.
use mathlib.Core.Path.{◌≡◌, refl, sym}
use mathlib.Core.Bool.{Bool, not}
use mathlib.Core.List.{List, [], ◌∷◌}
use mathlib.Core.Logic.{◌⊎◌, ⊎_elim}
use Prim.Native.Nat.{ℕ, ◌<◌}
use native.Mathlib.Omega.{arith}
use lib.Dec.{T, eqb, ltb}
use lib.ListN.{length, get_or}
use Rattle.answers.specs.Table.{Entry, Answer, answer, wholes, pick, passes, plains}
use Rattle.answers.proofs.Rules.{picked}
use Rattle.layout.specs.declared.control.ParseControl.{ParseControl}
use Rattle.layout.specs.declared.rule.Rule.{Rule}
use Rattle.layout.specs.declared.rule.Rule.TheVariants.{A, B, C, D, E, F, G, H, I, J, K}
use Rattle.layout.specs.Header.{control_at, body_at, head_rules}
use Rattle.layout.specs.Ruled.{passed, refused_by}
use Rattle.layout.specs.Size.{fit_ruled}
use Rattle.layout.specs.declared.header.Head.{Head}
use Rattle.elements.specs.Elements.{head_of, deviations_at, deviation_count, codes_at, present_count, end_at}
use Rattle.elements.specs.Formats.{deviation_format, code_format}
use Rattle.rules.specs.Named.{rank, rule_of, pack_ruled}
use Rattle.rules.proofs.Refused.{refused-by}
use Rattle.explain.specs.Explained.{place_of}
use Rattle.explain.specs.Found.{Sized, stopped_at}
use Rattle.explain.proofs.Ends.{head-passes, fit-passes, placed, codes-start}
use Rattle.explain.proofs.Stopped.{stopped}

module _ (bytes : List ℕ) where
  -- a), d)
  pub at_front : (x : Rule) → (x ≡ A) ⊎ (x ≡ D) → 0 ≡ place_of bytes x
  at_front x t = ⊎_elim (λ h. rw h) (λ h. rw h) t

  module _ {x : Rule} {a : Answer} (e : pack_ruled bytes ≡ refused_by x a) where
    before : (z y : Rule) → x ≡ z → rank y < rank z → (rule_of bytes y).number ≡ 0
    before z y h l = (refused-by bytes e).0.before y (rw h l)

    -- b), c)
    pub at-control : (x ≡ B) ⊎ (x ≡ C) → Sized bytes × (control_at bytes ≡ place_of bytes x)
    at-control t =
        ⊎_elim (λ h. (before B A h (omega arith), rw h)) (λ h. (before C A h (omega arith), rw h)) t

    -- e) to g)
    headed : (z : Rule) → 1 < rank z → x ≡ z → (head_rules bytes).number ≡ 0
    headed z l h = head-passes bytes (before z A h (omega arith)) (before z B h l)

    pub at_body : (x ≡ E) ⊎ ((x ≡ F) ⊎ (x ≡ G)) → ((head_rules bytes).number ≡ 0) × (body_at bytes ≡ place_of bytes x)
    at_body t =
        ⊎_elim (λ h. (headed E (omega arith) h, rw h))
        (λ t. ⊎_elim (λ h. (headed F (omega arith) h, rw h)) (λ h. (headed G (omega arith) h, rw h)) t)
        t

    -- h) to k): a) to g) pass
    pub all_fit : 6 < rank x → fit_ruled bytes ≡ passed
    all_fit l = fit-passes bytes (λ y k. (refused-by bytes e).0.before y (omega (arith, l, k)))

-- ---- h) to k), one by one
pub late : (x : Rule) → (x ≡ A → ⊥) → (x ≡ B → ⊥) → (x ≡ C → ⊥) → (x ≡ D → ⊥) → (x ≡ E → ⊥) → (x ≡ F → ⊥) → (x ≡ G → ⊥) → 6 < rank x
late A a b c d e f g = absurd (a refl)
late B a b c d e f g = absurd (b refl)
late C a b c d e f g = absurd (c refl)
late D a b c d e f g = absurd (d refl)
late E a b c d e f g = absurd (e refl)
late F a b c d e f g = absurd (f refl)
late G a b c d e f g = absurd (g refl)
late H a b c d e f g = omega arith
late I a b c d e f g = omega arith
late J a b c d e f g = omega arith
late K a b c d e f g = omega arith

pub last-is : (x : Rule) → 6 < rank x → (x ≡ H → ⊥) → (x ≡ I → ⊥) → (x ≡ J → ⊥) → x ≡ K
last-is H l h i j = absurd (h refl)
last-is I l h i j = absurd (i refl)
last-is J l h i j = absurd (j refl)
last-is K l h i j = refl
last-is A l h i j = absurd (omega arith)
last-is B l h i j = absurd (omega arith)
last-is C l h i j = absurd (omega arith)
last-is D l h i j = absurd (omega arith)
last-is E l h i j = absurd (omega arith)
last-is F l h i j = absurd (omega arith)
last-is G l h i j = absurd (omega arith)

-- no format is refused by 1
pub record Other (a : Answer) : Type 0 where
  pub not-1 : a.number ≡ 1 → ⊥

other-answer : (m : ℕ) (es : List Entry) → T (not (eqb m 1)) → Other (answer m es)
other-answer m es t = record { not-1 = λ z. absurd (rw z at t) }

other_pick : (t : Bool) (a b : Answer) → Other a → Other b → Other (pick t a b)
other_pick t a b p q = picked Other t a b (λ _. p) (λ _. q)

deviation-other : (c : ParseControl) → Other (deviation_format c)
deviation-other c = search (other-answer, other_pick)

code_other : (c : ParseControl) → Other (code_format c)
code_other c = search (other-answer, other_pick)

module _ (bytes : List ℕ) where
  abbrev h : Head
  h = head_of bytes

  pub at-deviation : {a : Answer} → pack_ruled bytes ≡ refused_by H a → stopped_at (length bytes) (deviations_at h) a ≡ place_of bytes H
  at-deviation e =
      let r = refused-by bytes e in
      let c = h.control in
      rw r.1
      (sym (stopped bytes (deviations_at h) c.slen (deviation_format c) (deviation-other c).not-1 (placed bytes (λ y k. r.0.before y k)).vector (deviation_count h) r.0.refuses))

  pub at_code : {a : Answer} → pack_ruled bytes ≡ refused_by J a → stopped_at (length bytes) (codes_at h) a ≡ place_of bytes J
  at_code e =
      let r = refused-by bytes e in
      let c = h.control in
      let w = codes-start bytes (λ y k. r.0.before y (omega arith)) (r.0.before H (omega arith)) in
      rw r.1 (sym (stopped bytes (codes_at h) c.clen (code_format c) (code_other c).not-1 w (present_count bytes h) r.0.refuses))

  pub at-end : {a : Answer} → pack_ruled bytes ≡ refused_by K a → get_or (plains a.carries) 0 0 ≡ place_of bytes K
  at-end e =
      let r = refused-by bytes e in
      rw r.1
      (picked (λ a. (a.number ≡ 0 → ⊥) → get_or (plains a.carries) 0 0 ≡ end_at bytes h) (ltb (end_at bytes h) (length bytes))
      (answer 2 (wholes (end_at bytes h ∷ length bytes ∷ []))) passes (λ _ _. refl) (λ _ n. absurd (n refl)) r.0.refuses)
