-- Peek gives N exactly where rules a) to g) pass; and what a header that was read tells.
-- Assumes nothing.
use mathlib.Core.Path.{◌≡◌, refl, sym, ap, ◌∙◌}
use mathlib.Core.Bool.{false}
use mathlib.Core.List.{List}
use mathlib.Core.Logic.{◌↔◌}
use Prim.Native.Nat.{ℕ, ◌-◌, ◌≤◌}
use native.Mathlib.Omega.{arith}
use lib.Dec.{eqb, ltb}
use lib.ListN.{length}
use borrow.Author.Tests.{eqb-true, ltb-false}
use Rattle.std.specs.Prelude.{Option, None, Some, Result, Ok, Err}
use Rattle.std.specs.Result.{result_ok}
use Rattle.answers.specs.Table.{Answer, passes, next}
use Rattle.answers.proofs.Rules.{picked}
use Rattle.numbers.specs.declared.ber_oid.BerOid.{BerOid}
use Rattle.numbers.specs.BerOid.{oid_read}
use Rattle.layout.specs.declared.control.ParseControl.{ParseControl}
use Rattle.layout.specs.declared.header.Head.{Head}
use Rattle.layout.specs.declared.header.HeaderError.{HeaderError}
use Rattle.layout.specs.declared.header.HeaderError.TheVariants.{Short}
use Rattle.layout.specs.declared.rule.Rule.TheVariants.{A, B, C, D, E, F, G}
use Rattle.layout.specs.Header.{headed, said_size, control_of, body_at, header_behind, header_of, rule_a, rule_b, header_refusal, head_rules}
use Rattle.layout.specs.Size.{rule_c, rule_d, rule_e, rule_f, rule_g, size_rules, size_ruled, fit_rules, fit_ruled, peeked}
use Rattle.answers.proofs.Next.{Says, IsRule, rules, next-next}
use Rattle.layout.proofs.Ruled.{unnamed-next, unnamed-last}

-- the answers of rules c) to g), and of a) to g), one behind the other
abbrev size_answers : ℕ → ℕ → ParseControl → Answer
size_answers n R k = next (rule_c n R k) (next (rule_d n R k) (next (rule_e n R k) (next (rule_f n R k) (rule_g n R k))))

pub size-answers : (n R : ℕ) (k : ParseControl) → size_rules n R k ≡ size_answers n R k
size-answers n R k =
    unnamed-next C (rule_c n R k) _
    (unnamed-next D (rule_d n R k) _
    (unnamed-next E (rule_e n R k) _ (unnamed-next F (rule_f n R k) _ (unnamed-last G (rule_g n R k) (search rules)))))

pub fit-answers : (bytes : List ℕ) → fit_rules bytes ≡ next (head_rules bytes) (size_rules (said_size bytes) (length bytes - body_at bytes) (control_of bytes))
fit-answers bytes =
    let h = header_of bytes in
    unnamed-next A (rule_a h) _ (unnamed-next B (rule_b h) _ refl) ∙ sym (next-next (rule_a h) (rule_b h) _)

-- a rule whose number is 0 passes
size-rule : (n R : ℕ) (k : ParseControl) → IsRule (size_answers n R k)
size-rule n R k = search rules depth 7

pub fit-rule : (bytes : List ℕ) → IsRule (fit_rules bytes)
fit-rule bytes = rw (fit-answers bytes, size-answers) (search (rules, size-rule))

-- peek gives N exactly where the rules pass, and nothing only where one refuses
pub peek-size : (bytes : List ℕ) (n : ℕ) → (peeked bytes ≡ Some n) ↔ ((fit_rules bytes ≡ passes) × (n ≡ said_size bytes))
peek-size bytes n = (
  picked (λ p. p ≡ Some n → (fit_rules bytes ≡ passes) × (n ≡ said_size bytes)) _ _ _
      (λ t e. ((fit-rule bytes).done (eqb-true _ 0 t), (cc))) (λ _ e. let z : ◌≡◌ {A = ℕ} 0 1 = cc in absurd (omega arith)),
  λ p. rw (p.0, p.1),
)

pub peek-nothing : (bytes : List ℕ) → peeked bytes ≡ None → (fit_rules bytes).number ≡ 0 → ⊥
peek-nothing bytes e z = let o : ◌≡◌ {A = ℕ} 0 1 = cc ((peek-size bytes (said_size bytes)).1 ((fit-rule bytes).done z, refl)) in omega arith

pub peek-unopened : (bytes : List ℕ) → eqb (head_rules bytes).number 0 ≡ false → None ≡ peeked bytes
peek-unopened bytes f = rw (fit-answers bytes) (simp f)

-- where a) and b) pass the control lies within the bytes
pub head-tells : (bytes : List ℕ) → Says (λ _. body_at bytes ≤ length bytes) (head_rules bytes)
head-tells bytes = record { done = go (oid_read bytes) }
  where
    go : (r : Option BerOid) → (header_refusal (header_behind bytes r)).number ≡ 0 → body_at bytes ≤ length bytes
    go None z = absurd (omega arith)
    go (Some oid) z =
        picked (λ (h : Result Head HeaderError). (header_refusal h).number ≡ 0 → body_at bytes ≤ length bytes) _ _ _
        (λ _ z. absurd (omega arith)) (λ f _. ltb-false (length bytes) (body_at bytes) f) z

-- what a header that was read tells
pub record Opened (bytes : List ℕ) (n : ℕ) (k : ParseControl) (b : ℕ) : Type 0 where
  pub passed : (head_rules bytes).number ≡ 0
  pub size : n ≡ said_size bytes
  pub control : k ≡ control_of bytes
  pub body : b ≡ body_at bytes

module _ (bytes : List ℕ) {n : ℕ} {k : ParseControl} {b : ℕ} (o : headed n k b ≡ header_of bytes) where
  pub opened : Opened bytes n k b
  opened = go (oid_read bytes) o
    where
      passed : (head_rules bytes).number ≡ 0
      passed = ap (λ (h : Result Head HeaderError). (header_refusal h).number) (sym o)

      go : (r : Option BerOid) → headed n k b ≡ header_behind bytes r → Opened bytes n k b
      go None e = let z : ◌≡◌ {A = ℕ} 0 1 = cc in absurd (omega arith)
      go (Some oid) e =
          picked (λ h. headed n k b ≡ h → Opened bytes n k b) (ltb (length bytes) (body_at bytes)) (Err Short) (headed (said_size bytes) (control_of bytes) (body_at bytes))
          (λ _ e. let z : ◌≡◌ {A = ℕ} 0 1 = cc in absurd (omega arith))
          (λ _ e.
          let h : ◌≡◌ {A = Head} (record { n = n; control = k; body = b })
          (record { n = said_size bytes; control = control_of bytes; body = body_at bytes }) = cc in
          record {
            passed = passed;
            size = ap (λ (h : Head). h.n) h;
            control = ap (λ (h : Head). h.control) h;
            body = ap (λ (h : Head). h.body) h;
          }) e

  pub body-within : b ≤ length bytes
  body-within = rw opened.body ((head-tells bytes).done opened.passed)

  -- the rules that are left are those of the size
  pub fit_is : fit_ruled bytes ≡ size_ruled n (length bytes - b) k
  fit_is = rw (opened.size, opened.control, opened.body, ← o)

-- a header that is handed on was read
pub handed-on : (r : Result Head HeaderError) {h : Head} → result_ok r ≡ Some h → Ok h ≡ r
handed-on (Ok g) e = cc
handed-on (Err x) e = let z : ◌≡◌ {A = ℕ} 0 1 = cc in absurd (omega arith)
