-- Marks in lent memory: what a look at all entries finds.
-- Assumes nothing.
use mathlib.Core.Path.{◌≡◌, refl, sym, subst, ◌∙◌}
use mathlib.Core.Bool.{Bool, true, false, not, ◌||◌}
use mathlib.Core.List.{List, [], ◌∷◌, ◌++◌}
use Prim.Native.Nat.{ℕ, ◌≤◌}
use lib.ListN.{length, take, drop}
use lib.Seq.{length-take-le}
use Rattle.std.proofs.Math.ListN.{replicate}
use Rattle.std.specs.List.{fold}
use Rattle.answers.specs.Table.{pick}
use Rattle.text.specs.Marks.{IsClonedAs, marked, unmarked}

module _ {T : Type 0} (infallible : T → Type 0) (clone : T → T → Type 0) {mark value : T} (e : value ≡ mark) (k : IsClonedAs infallible clone mark) where
  -- the mark may be cloned
  pub clonable : infallible value
  clonable = subst infallible (sym e) k.0

  -- a fill of the first entries
  pub filled : (n : ℕ) (lent : List T) {front : List T} → n ≤ length lent
      → (((y : T) → clone value y → y ≡ value) → front ≡ replicate (length (take n lent)) value) → front ++ drop n lent ≡ marked mark n lent
  filled n lent {front} h f =
      let same : (y : T) → clone value y → y ≡ value = subst (λ (v : T). (y : T) → clone v y → y ≡ v) (sym e) k.1 in
      rw (f same, length-take-le n lent h, e)

module _ {T : Type 0} (eq : T → T → Bool) (mark : T) where
  -- a look at all of them
  looked-on : (entries : List T) (b : Bool) → fold (λ b e. b || not (eq e mark)) b entries ≡ (b || unmarked eq mark entries)
  looked-on [] true = refl
  looked-on [] false = refl
  looked-on (entry ∷ entries) b = looked-on entries (b || not (eq entry mark)) ∙ joined b (eq entry mark) (unmarked eq mark entries)
    where
      joined : (b same rest : Bool) → ((b || not same) || rest) ≡ (b || pick same rest true)
      joined true same rest = refl
      joined false true rest = refl
      joined false false rest = refl

  pub looked : (entries : List T) → fold (λ b e. b || not (eq e mark)) false entries ≡ unmarked eq mark entries
  looked entries = looked-on entries false
