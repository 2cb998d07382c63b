-- `listed` and `written` are one to one: what determines the listed answer determines the enum.
-- A new case of `Refusal` changes nothing here while the enum keeps the table's order.
-- Assumes nothing.
use mathlib.Core.Path.{◌≡◌, refl, sym, ap, ◌∙◌}
use mathlib.Core.Bool.{Bool, true, false}
use mathlib.Core.List.{List, [], ◌∷◌}
use Prim.Native.Nat.{ℕ, ◌-◌}
use native.Mathlib.Omega.{arith}
use lib.Dec.{ltb, eqb}
use Rattle.std.specs.Prelude.{Ok, Err, Result, ⊤}
use Rattle.answers.specs.declared.Refusal.{Refusal}
use Rattle.answers.specs.Table.{Entry, whole, bits64, Answer, passes}
use Rattle.answers.specs.Listed.{listed, written, checked}
use Rattle.answers.specs.contracts.Refusal.{the_parts as parts, as_values, the_make as make, the_eta as eta}
use Rattle.answers.proofs.Cases.{counts, Case, place, values, same_case, First, Behind, both, every}

abbrev pub cases : List ℕ
cases = counts parts

-- two readings of a refusal agree where they agree on each case: on the first seven, and on those behind
abbrev pub Agree : {X : Type 0} → (Refusal → X) → (Refusal → X) → Case cases → Type 0
Agree f g c = f (make c) ≡ g (make c)

pub of-each : {X : Type 0} (f g : Refusal → X) → First 7 cases (Agree f g) → Behind 7 cases (Agree f g) → (r : Refusal) → f r ≡ g r
of-each f g h k r = rw (← (eta r)) (every cases (Agree f g) (both 7 cases (Agree f g) h k) (as_values r))

-- no refusal is done
pub refused-not-done : (r : Refusal) → eqb (listed r).number 0 ≡ false
refused-not-done = of-each (λ r. eqb (listed r).number 0) (λ r. false) (search depth 8) (search depth 8)

-- the case's place in the enum, read off the answer: row 3 stands there twice, for whole numbers and for binary64
abbrev shift : Bool → List Entry → ℕ → ℕ
shift true es n = n
shift false [] n = n - 1
shift false (whole a ∷ es) n = n - 1
shift false (bits64 b ∷ es) n = n

abbrev rank : Answer → ℕ
rank a = shift (ltb 3 a.number) a.carries a.number

placed : (r : Refusal) → rank (listed r) ≡ place cases (as_values r)
placed = of-each (λ r. rank (listed r)) (λ r. place cases (as_values r)) (search depth 8) (search depth 8)

-- its numbers
abbrev plain : Entry → ℕ
plain (whole n) = n
plain (bits64 b) = b

abbrev plains : List Entry → List ℕ
plains [] = []
plains (e ∷ es) = plain e ∷ plains es

valued : (r : Refusal) → plains (listed r).carries ≡ values cases (as_values r)
valued = of-each (λ r. plains (listed r).carries) (λ r. values cases (as_values r)) (search depth 8) (search depth 8)

pub listed-one : (r s : Refusal) → listed r ≡ listed s → r ≡ s
listed-one r s e =
    let p : place cases (as_values r) ≡ place cases (as_values s) = sym (placed r) ∙ ap rank e ∙ placed s in
    let v : values cases (as_values r) ≡ values cases (as_values s) =
    sym (valued r) ∙ ap (λ (a : Answer). plains a.carries) e ∙ valued s in
    sym (eta r) ∙ ap make (same_case cases (as_values r) (as_values s) p v) ∙ eta s

-- done and refused are told apart by the number
pub done-not-refused : (a : Answer) (r : Refusal) → a.number ≡ 0 → a ≡ listed r → ⊥
done-not-refused a r z e =
    let t : true ≡ false = ap (λ (n : ℕ). eqb n 0) (sym z ∙ ap (λ (b : Answer). b.number) e) ∙ refused-not-done r in
    let o : ◌≡◌ {A = ℕ} 0 1 = cc in
    omega arith

-- a listing of results is one to one where it is on what was done, and on what refuses, and tells the two apart
pub result-one : {T E X : Type 0} (f : Result T E → X)
    → ((x y : T) → f (Ok x) ≡ f (Ok y) → x ≡ y) → ((r s : E) → f (Err r) ≡ f (Err s) → r ≡ s)
    → ((x : T) (r : E) → f (Ok x) ≡ f (Err r) → ⊥) → (a b : Result T E) → f a ≡ f b → a ≡ b
result-one f ok err apart (Ok x) (Ok y) e = ap Ok (ok x y e)
result-one f ok err apart (Ok x) (Err r) e = absurd (apart x r e)
result-one f ok err apart (Err r) (Ok x) e = absurd (apart x r (sym e))
result-one f ok err apart (Err r) (Err s) e = ap Err (err r s e)

pub written_one : (r s : Result ℕ Refusal) → written r ≡ written s → r ≡ s
written_one =
    result-one written
    (λ n m e. let c : plains (written (Ok n)).carries ≡ plains (written (Ok m)).carries = ap (λ (a : Answer). plains a.carries) e in cc)
    listed-one (λ n s. done-not-refused (written (Ok n)) s refl)

-- a writer's contract gives one answer: what `left` says that an answer leaves is left
pub writer-one : (left : Answer → List ℕ) {a : Answer} (r s : Result ℕ Refusal) {l m : List ℕ}
    → (written r ≡ a) × (l ≡ left (written r)) → (written s ≡ a) × (m ≡ left (written s)) → (r ≡ s) × (l ≡ m)
writer-one left r s p q = let e = p.0 ∙ sym q.0 in (written_one r s e, p.1 ∙ ap left e ∙ sym q.1)

pub checked-one : (r s : Result ⊤ Refusal) → checked r ≡ checked s → r ≡ s
checked-one = result-one checked (λ _ _ _. refl) listed-one (λ _ s. done-not-refused passes s refl)
