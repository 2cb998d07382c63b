-- `request::Request::with` meets its contract, by the letter.
use mathlib.Core.Path.{◌≡◌}
use mathlib.Core.Logic.{inl, inr, ⊎_elim}
use native.Mathlib.Omega.{arith}
use borrow.Author.Tests.{ne_eqb}
use Rattle.replies.proofs.Letters.{neither}
use Rattle.requests.specs.Request.{with}
use Rattle.requests.proofs.Letters.{one_of_two}
use Prim.Native.Nat.{ℕ}
use types.Run.{OneOf}
use mathlib.Core.List.{[], ◌∷◌}
use Rattle.requests.specs.declared.request.Request.{Request}
use Rattle.requests.proofs.request.Request.with.Goals as goal

-- a letter that says nothing
other : (l value : ℕ) (self : Request)
    → (l ≡ 0x4e → ⊥) → (OneOf (0x49 ∷ 0x50 ∷ []) l → ⊥) → (l ≡ 0x59 → ⊥) → (OneOf (0x48 ∷ 0x4a ∷ []) l → ⊥)
    → (OneOf (0x47 ∷ 0x4c ∷ 0x52 ∷ []) l → ⊥) → (OneOf (0x44 ∷ 0x53 ∷ []) l → ⊥)
    → (OneOf (0x43 ∷ 0x45 ∷ []) l → ⊥) → (OneOf (0x46 ∷ 0x54 ∷ []) l → ⊥)
    → (l ≡ 0x57 → ⊥) → (l ≡ 0x58 → ⊥) → self ≡ with l value self
unfolding with
other l value self n v y g r d c s w x =
    rw (
      ne_eqb l 0x4e n,
      neither _ _ l v,
      ne_eqb l 0x59 y,
      neither _ _ l g,
      ne_eqb l 0x47 (λ e. r (inl e)),
      neither _ _ l (λ o. r (inr o)),
      neither _ _ l d,
      neither _ _ l c,
      neither _ _ l s,
      ne_eqb l 0x57 w,
      ne_eqb l 0x58 x,
    )

pub returns-in-78 : goal.returns-in-78
unfolding with
returns-in-78 c = rw c.in-78.is

pub returns-in-89 : goal.returns-in-89
unfolding with
returns-in-89 c = rw c.in-89.is

pub returns-in-72 : goal.returns-in-72
unfolding with
returns-in-72 c = ⊎_elim (λ e. rw e) (λ e. rw e) c.in-72.is

pub returns-in-71 : goal.returns-in-71
unfolding with
returns-in-71 c = ⊎_elim (λ e. rw e) (⊎_elim (λ e. rw e) (λ e. rw e)) c.in-71.is

pub returns-in-68 : goal.returns-in-68
unfolding with
returns-in-68 c = ⊎_elim (λ e. rw e) (λ e. rw e) c.in-68.is

pub returns-in-67 : goal.returns-in-67
unfolding with
returns-in-67 c = ⊎_elim (λ e. rw e) (λ e. rw e) c.in-67.is

pub returns-in-70 : goal.returns-in-70
unfolding with
returns-in-70 c = ⊎_elim (λ e. rw e) (λ e. rw e) c.in-70.is

pub returns-in_default : goal.returns-in_default
returns-in_default c =
    let a = c.args in
    let r = c.in_default.in_default-own.rest in
    other a.letter a.value a.self r.0.0.0.0.0.0.0.1 r.0.0.0.0.0.0.1 r.0.0.0.0.0.1 r.0.0.0.0.1 r.0.0.0.1 r.0.0.1 r.0.1 r.1
    (λ e. omega arith) (λ e. omega arith)

pub returns-in_default-2 : goal.returns-in_default-2
returns-in_default-2 c =
    let a = c.args in
    let r = c.in_default.in_default-own.rest in
    other a.letter a.value a.self r.0.0.0.0.0.0.0.1 r.0.0.0.0.0.0.1 r.0.0.0.0.0.1 r.0.0.0.0.1 r.0.0.0.1 r.0.0.1 r.0.1 r.1
    (λ e. omega arith) (λ e. omega arith)

pub returns-in-73 : goal.returns-in-73
unfolding with
returns-in-73 c = ⊎_elim (λ e. rw e) (λ e. rw e) c.in-73.is

pub returns-in-73-2 : goal.returns-in-73-2
unfolding with
returns-in-73-2 c =
    let l = c.args.letter in
    ⊎_elim (λ e. rw e) (λ e. rw e) (one_of_two 0x57 l (omega arith) (omega arith))
