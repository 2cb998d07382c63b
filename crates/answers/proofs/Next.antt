-- Laws of an order of rules: `next`, and what holds where every rule was passed.
-- Assumes nothing.
use mathlib.Core.Path.{◌≡◌, refl, sym, ap}
use mathlib.Core.Bool.{Bool, true, false}
use mathlib.Core.List.{List}
use Prim.Native.Nat.{ℕ}
use native.Mathlib.Omega.{arith}
use lib.Dec.{T, eqb, ltb, ltb→lt}
use borrow.Author.Tests.{eqb-true, eqb-false}
use Rattle.std.specs.Prelude.{Ok, Err, Result, ⊤}
use Rattle.answers.specs.Table.{Entry, Answer, answer, pick, passes, next}
use Rattle.answers.specs.Listed.{listed, checked}
use Rattle.answers.specs.declared.Refusal.{Refusal}
use Rattle.answers.proofs.OneToOne.{refused-not-done, done-not-refused}
use Rattle.answers.proofs.Rules.{picked}

abbrev none : Answer → Bool
none a = eqb a.number 0

-- the next rule counts exactly where this one refuses nothing
pub next-passed : (a b : Answer) → a.number ≡ 0 → next a b ≡ b
next-passed a b z = rw z

-- an order of rules can be taken in parts
pub next-next : (a b c : Answer) → next (next a b) c ≡ next a (next b c)
next-next a b c =
    picked (λ x. next x c ≡ next a (next b c)) (eqb a.number 0) b a (λ t. rw t) (λ f. rw f)

-- where an order of rules refuses nothing, no rule does
pub next-zero : (a b : Answer) → (next a b).number ≡ 0 → (a.number ≡ 0) × (b.number ≡ 0)
next-zero a b =
    picked (λ x. x.number ≡ 0 → (a.number ≡ 0) × (b.number ≡ 0)) (eqb a.number 0) b a
    (λ t e. (eqb-true a.number 0 t, e)) (λ f e. absurd (eqb-false a.number 0 f e))

-- a rule that refuses nothing did not hold its test
pub unheld : (t : Bool) (a : Answer) → eqb a.number 0 ≡ false → (pick t a passes).number ≡ 0 → t ≡ false
unheld true a f z = absurd (eqb-false a.number 0 f z)
unheld false a f z = refl

-- a check that passes is of rules that refuse nothing
pub check-passed : {k : Result ⊤ Refusal} {a : Answer} → k ≡ (Ok tt) → checked k ≡ a → a.number ≡ 0
check-passed e f = let g = rw e at f in sym (ap (λ (x : Answer). x.number) g)

-- what an answer says where it refuses nothing
pub record Says (P : Answer → Type 0) (a : Answer) : Type 0 where
  pub done : a.number ≡ 0 → P a

module _ {P : Answer → Type 0} where
  pub says-passes : P passes → Says P passes
  says-passes p = record { done = λ _. p }

  pub says-refused : (m : ℕ) (es : List Entry) → T (ltb 0 m) → Says P (answer m es)
  says-refused m es p = record { done = λ z. absurd (omega (arith, ltb→lt 0 m p)) }

  pub says-pick : (t : Bool) (a b : Answer) → (t ≡ true → Says P a) → (t ≡ false → Says P b) → Says P (pick t a b)
  says-pick t a b p q = picked (Says P) t a b p q

  pub says-next : (a b : Answer) → Says P b → Says P (next a b)
  says-next a b q = picked (Says P) (none a) b a (λ _. q) (λ f. record { done = λ z. absurd (eqb-false a.number 0 f z) })

-- every rule was passed, whatever their order
pub ruleset rules = (says-passes, says-refused, says-pick, says-next)

-- an answer that refuses nothing carries nothing
abbrev pub IsRule : Answer → Type 0
IsRule = Says (λ a. a ≡ passes)

-- a check that refuses ends an order of rules, and one that passes goes on to the next
module _ {k : Result ⊤ Refusal} (a b : Answer) (e : checked k ≡ a) where
  pub stops : {r : Refusal} → k ≡ Err r → checked k ≡ next a b
  stops {r} h = let f : listed r ≡ a = rw h at e in rw (h, ← f, refused-not-done r)

  pub goes : k ≡ (Ok tt) → next a b ≡ b
  goes h = let f : passes ≡ a = rw h at e in rw (← f)

pub never-refused : {k : Result ⊤ Refusal} {r : Refusal} → checked k ≡ passes → k ≡ Err r → ⊥
never-refused {r = r} e h = done-not-refused passes r refl (sym (rw h at e))
